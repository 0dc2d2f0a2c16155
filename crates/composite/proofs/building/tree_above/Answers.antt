-- `tree_above` meets its contract: no tree, a refusal, or the build over the items' words (TreeLaws).
use Rattle.std.proofs.Common.{◌≡◌, Err, ◌≤◌, ◌<◌, ◌*◌, arith, length, rules}
use mathlib.Core.Path.{refl}
use Rattle.composite.proofs.TreeLaws.{fits, none, too_many, too_short, by_build, over_items}
use Rattle.composite.proofs.building.tree_above.Goals as goal

pub returns-then-n-limit : goal.returns-then-n-limit
returns-then-n-limit c = none _ _ _ _ _ _ c.if-n-limit.true

pub returns-then-n-gt32767 : goal.returns-then-n-gt32767
returns-then-n-gt32767 c = too_many _ _ _ _ _ _ c.if-n-limit.false c.if-n-gt32767.true

pub returns-then-children-n : goal.returns-then-children-n
returns-then-children-n c =
    let few : c.args.n ≤ 32767 = omega arith in
    let short : length c.args.children.now < 24 * c.args.n = omega arith in
    too_short _ _ _ _ _ _ c.if-n-limit.false few short

pub put_items-requires : goal.put_items-requires
put_items-requires c =
    let k = fits _ _ _ c.taken.ensures in
    (omega arith, k.0, k.1, omega arith)

pub returns-in_err-tree : goal.returns-in_err-tree
returns-in_err-tree c =
    let a = c.args in
    let few : a.n ≤ 32767 = omega arith in
    let long : 24 * a.n ≤ length a.children.now = omega arith in
    let same : c.from_residual.result ≡ Err c.in_err-tree.field-0.0 = search rules in
    by_build _ _ _ _ _ _ _ _ _ same c.if-n-limit.false few long
    (over_items _ _ _ a.entries.now _ a.places.now a.temp.now a.stack.now a.rows.now a.centres.now _ _ _ _
    c.put_items.ensures c.taken.ensures c.in_err-tree.ensures)

pub returns : goal.returns
returns c =
    let a = c.args in
    let few : a.n ≤ 32767 = omega arith in
    let long : 24 * a.n ≤ length a.children.now = omega arith in
    by_build _ _ _ _ _ _ _ _ _ refl c.if-n-limit.false few long
    (over_items _ _ _ a.entries.now _ a.places.now a.temp.now a.stack.now a.rows.now a.centres.now _ _ _ _
    c.put_items.ensures c.taken.ensures c.in_ok-tree.ensures)
