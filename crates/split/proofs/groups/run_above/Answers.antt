-- `groups::run_above` meets its contract: all before i pass.
use native.Mathlib.Omega.{arith}
use Prim.Native.Nat.{ℕ}
use mathlib.Core.Path.{◌≡◌, subst}
use mathlib.Core.Bool.{Bool}
use lib.ListN.{length}
use Rattle.entries.specs.Boxes.{box_at}
use Rattle.split.specs.Rule.{above}
use Rattle.split.specs.Steps.Groups.{passes, Leading}
use Rattle.split.proofs.Parting.{passes_above}
use Rattle.split.proofs.groups.run_above.Goals as goal

pub returns-then-one_if_above-lt1 : goal.returns-then-one_if_above-lt1
returns-then-one_if_above-lt1 c =
    let leading : (r : ℕ) → let g = c.args in Leading (passes g.entries.now c.step_of-step.result c.coordinate-cut.result) g.places.now r → Leading (above (box_at g.entries.now) g.avg g.axis) g.places.now r = λ r w.
    let g = c.args in
    let step = c.step_of-step in
    let cut = c.coordinate-cut in
    let e = passes_above g.entries.now g.avg g.axis step.result cut.result step.ensures cut.ensures in
    subst (λ (test : ℕ → Bool). Leading test g.places.now r) e w in
    leading c.loop-i.i c.loop-i.invariant

pub returns : goal.returns
returns c =
    let leading : (r : ℕ) → let g = c.args in Leading (passes g.entries.now c.step_of-step.result c.coordinate-cut.result) g.places.now r → Leading (above (box_at g.entries.now) g.avg g.axis) g.places.now r = λ r w.
    let g = c.args in
    let step = c.step_of-step in
    let cut = c.coordinate-cut in
    let e = passes_above g.entries.now g.avg g.axis step.result cut.result step.ensures cut.ensures in
    subst (λ (test : ℕ → Bool). Leading test g.places.now r) e w in
    let all : c.loop-i.i ≡ length c.args.places.now = omega (arith, c.loop-i.invariant.within) in
    rw (← all) (leading c.loop-i.i c.loop-i.invariant)
