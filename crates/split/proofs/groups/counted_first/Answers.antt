-- `groups::counted_first` meets its contract: on x as many are above as stand before the others.
use native.Mathlib.Omega.{arith}
use mathlib.Core.Path.{ap, sym, ◌∙◌}
use mathlib.Core.Bool.{false≢true}
use lib.ListN.{length}
use Rattle.base.specs.Lists.{sift}
use Rattle.math.specs.declared.axis.Axis.{Axis}
use Rattle.entries.specs.Boxes.{box_at}
use Rattle.split.specs.declared.groups.Counts.{Counts}
use Rattle.split.specs.Rule.{above}
use Rattle.split.proofs.Counted.{step_zero, counted_leading}
use Rattle.split.proofs.Counting.{above_le}
use Rattle.split.proofs.groups.counted_first.Goals as goal

pub none_above-requires : goal.none_above-requires
none_above-requires c =
    let e = ap (λ (n : Counts). n.over) c.requires.2 in
    (omega (arith, e, above_le (box_at c.args.entries.now) c.args.avg c.args.places.now), c.requires.0, c.requires.1)

pub returns-then-step_of-eq0 : goal.returns-then-step_of-eq0
returns-then-step_of-eq0 c =
    let step = c.step_of in
    let a = c.args in
    let at = box_at a.entries.now in
    let x = step_zero a.axis (sym step.ensures ∙ c.if-step_of-eq0.true) in
    let e = ap (λ (b : Axis). length (sift (above at a.avg b) a.places.now)) x ∙ sym (ap (λ (n : Counts). n.over) c.requires.2) in
    λ t. counted_leading (above at a.avg a.axis) a.places.now a.counts.over e (c.none_above.ensures t)

pub returns : goal.returns
returns c = λ t. absurd (false≢true t)
