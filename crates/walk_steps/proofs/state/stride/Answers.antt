-- `state::stride` meets its contract: a node of count 0 is passed with all below it, a leaf alone.
use Rattle.base.proofs.Truth.{when, unless}
use mathlib.Core.Path.{◌≡◌, sym, ap, ◌∙◌}
use Prim.Native.Nat.{max}
use lib.Dec.{lit<}
use lib.IntN.{ℤ}
use Rattle.walk_steps.specs.Refusals.{whole}
use Rattle.walk_steps.proofs.Shorts.{same}
use Rattle.walk_steps.proofs.state.stride.Goals as goal

pub returns-then-count-eq0 : goal.returns-then-count-eq0
returns-then-count-eq0 c =
    let count_is : c.number-count.result ≡ whole c.args.n.item_count = c.number-count.ensures.0 ∙ ap whole (same c.args.n.item_count c.struct_told-1.given.1.1.1.0.1) in
    let n = c.args.n in
    let id = ap (λ (v : ℤ). max (whole v) 1) (same n.item_id c.struct_told-then-count-eq0-1.given.1.1.0.1) in
    (c.skip.ensures.0 ∙ id ∙ sym (when _ _ _ (sym count_is ∙ c.if-count-eq0.true)), c.skip.ensures.1)

pub returns-else-count-eq0 : goal.returns-else-count-eq0
returns-else-count-eq0 c =
    let count_is : c.number-count.result ≡ whole c.args.n.item_count = c.number-count.ensures.0 ∙ ap whole (same c.args.n.item_count c.struct_told-1.given.1.1.1.0.1) in
    (sym (unless _ _ _ (λ e. c.if-count-eq0.false (count_is ∙ e))), lit< tt)
