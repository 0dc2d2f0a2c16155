-- `reorder_bytes` meets its contract: the numbers of the first i positions are written, and the rest is as it was.
use Prim.Native.Nat.{ℕ, ◌<◌}
use mathlib.Core.Path.{ap, ◌∙◌}
use lib.ListN.{get_or}
use Rattle.reorder.proofs.RecordLaws.{numbers_next, order_at}
use native.Mathlib.Omega.{arith}
use Rattle.reorder.proofs.renumbering.reorder_bytes.Goals as goal

pub number_at-requires : goal.number_at-requires
number_at-requires c =
    let a = c.args in
    omega (arith, c.place_at.ensures, order_at a.n _ a.order.now c.loop-i.i c.requires.1 c.requires.3 (omega arith))

pub loop-i-preserved : goal.loop-i-preserved
loop-i-preserved c =
    let l = c.loop-i in
    let a = c.args in
    let below : l.i < a.n = omega arith in
    numbers_next a.order.now a.numbers.now a.out.now l.i _ (omega (arith, below, c.requires.1)) (omega (arith, below, c.requires.2))
    (c.number_at.ensures ∙ ap (λ (k : ℕ). get_or a.numbers.now k 0) c.place_at.ensures) l.invariant
