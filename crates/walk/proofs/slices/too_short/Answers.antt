-- `slices::too_short` meets its contract: the ways through it are how far its tests go.
use Rattle.base.proofs.Truth.{or_yes, or_no}
use mathlib.Core.Path.{sym, ◌∙◌}
use Rattle.std.specs.Prelude.{◌*◌}
use borrow.Author.Tests.{lt-ltb, le-ltb}
use Rattle.walk.proofs.slices.too_short.Goals as goal

pub returns-then-node_bytes-sizes : goal.returns-then-node_bytes-sizes
returns-then-node_bytes-sizes c =
    let a = c.args in
    let e = lt-ltb a.node_bytes (16 * a.sizes.nodes) c.if-node_bytes-sizes.true in
    e ∙ sym (or_yes _ e)

pub returns-then-tree_bytes-sizes : goal.returns-then-tree_bytes-sizes
returns-then-tree_bytes-sizes c =
    let a = c.args in
    let e = lt-ltb a.tree_bytes (16 * a.sizes.trees) c.if-tree_bytes-sizes.true in
    e ∙ sym (or_no _ (le-ltb a.node_bytes (16 * a.sizes.nodes) c.if-node_bytes-sizes.false) ∙ or_yes _ e)

pub returns-else-tree_bytes-sizes : goal.returns-else-tree_bytes-sizes
returns-else-tree_bytes-sizes c =
    let a = c.args in
    let nodes = le-ltb a.node_bytes (16 * a.sizes.nodes) c.if-node_bytes-sizes.false in
    let trees = le-ltb a.tree_bytes (16 * a.sizes.trees) c.if-tree_bytes-sizes.false in
    sym (or_no _ nodes ∙ or_no _ trees)
