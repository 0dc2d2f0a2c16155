-- `slices::too_many` meets its contract: the ways through it are how far its tests go.
use Rattle.base.proofs.Truth.{or_yes, or_no}
use mathlib.Core.Path.{sym, ◌∙◌}
use borrow.Author.Tests.{lt-ltb, le-ltb}
use Rattle.walk.proofs.slices.too_many.Goals as goal

pub returns-then-sizes-gt65535 : goal.returns-then-sizes-gt65535
returns-then-sizes-gt65535 c =
    let e = lt-ltb 65535 c.args.sizes.nodes c.if-sizes-gt65535.true in
    e ∙ sym (or_yes _ e)

pub returns-then-sizes-gt65535-2 : goal.returns-then-sizes-gt65535-2
returns-then-sizes-gt65535-2 c =
    let z = c.args.sizes in
    let e = lt-ltb 65535 z.trees c.if-sizes-gt65535-2.true in
    e ∙ sym (or_no _ (le-ltb 65535 z.nodes c.if-sizes-gt65535.false) ∙ or_yes _ e)

pub returns-else-sizes-gt65535-2 : goal.returns-else-sizes-gt65535-2
returns-else-sizes-gt65535-2 c =
    let z = c.args.sizes in
    sym (or_no _ (le-ltb 65535 z.nodes c.if-sizes-gt65535.false) ∙ or_no _ (le-ltb 65535 z.trees c.if-sizes-gt65535-2.false))
