-- `fill_lookup` meets its contract: the positions of the first i places of the order are stored (LookupLaws, `Filling`).
use Prim.Native.Nat.{ℕ}
use mathlib.Core.Path.{◌≡◌, refl, ap, ◌∙◌}
use lib.ListN.{set}
use Rattle.reorder.proofs.LookupLaws.{place_below, fill_next, fill_done}
use native.Mathlib.Omega.{arith}
use Rattle.reorder.proofs.lookup.fill_lookup.Goals as goal

pub loop-i-init : goal.loop-i-init
loop-i-init c = record { upto = omega arith; same = refl; filled = λ j h. absurd (omega arith) }

pub overflow_cast-new : goal.overflow_cast-new
overflow_cast-new c = omega (arith, c.requires.0.few)

pub place_at-requires : goal.place_at-requires
place_at-requires c = omega (arith, c.requires.0.long)

pub put_position-requires : goal.put_position-requires
put_position-requires c =
    let l = c.loop-i in
    omega (arith, c.place_at.ensures, place_below _ _ c.requires.0 l.i (omega arith), l.invariant.same)

pub loop-i-preserved : goal.loop-i-preserved
loop-i-preserved c =
    let l = c.loop-i in
    fill_next _ _ c.requires.0 _ l.lookup l.i l.invariant (omega arith) c.requires.1
    (c.put_position.ensures ∙ ap (λ (x : ℕ). set l.lookup x l.i) c.place_at.ensures)

pub returns : goal.returns
returns c =
    let l = c.loop-i in
    let end : l.i ≡ c.args.n = omega arith in
    fill_done _ _ c.requires.0 c.args.lookup.now l.lookup (rw end at l.invariant) c.requires.1
