-- `groups::partition` meets its contract. The loop's invariant: what is stored so far, followed by what the rest gives, is the whole of each group.
use native.Mathlib.Omega.{arith}
use Prim.Native.Nat.{ℕ}
use mathlib.Core.Bool.{Bool}
use mathlib.Core.Path.{subst, sym}
use Rattle.split.specs.Steps.Groups.{Leading}
use Rattle.split.proofs.Parting.{begin, parted, passes_above}
use Rattle.split.proofs.groups.partition.Goals as goal

pub loop-i-init : goal.loop-i-init
loop-i-init c =
    let g = c.args in
    let step = c.step_of-step in
    let cut = c.coordinate-cut in
    let e = passes_above g.entries.now g.avg g.axis step.result cut.result step.ensures cut.ensures in
    begin _ g.places.now g.temp.now g.seen (subst (λ (test : ℕ → Bool). Leading test g.places.now g.seen) (sym e) c.requires.3)

pub returns : goal.returns
returns c =
    let l = c.loop-i in
    let cut = c.coordinate-cut in
    let step = c.step_of-step in
    let ps = c.args.places.now in
    let e = passes_above c.args.entries.now c.args.avg c.args.axis step.result cut.result step.ensures cut.ensures in
    rw (← e) (parted _ ps c.args.temp.now l.places l.temp l.k l.i l.invariant (omega arith))
