-- `groups::seen_none_above` meets its contract: on x by the count, else it says so only where `none_above` does.
use borrow.Author.Tests.{eqb-true}
use mathlib.Core.Path.{ap, sym, ◌∙◌}
use lib.ListN.{length}
use Rattle.base.specs.Lists.{sift}
use Rattle.math.specs.declared.axis.Axis.{Axis}
use Rattle.entries.specs.Boxes.{box_at}
use Rattle.split.specs.declared.groups.Counts.{Counts}
use Rattle.split.specs.Rule.{above}
use Rattle.split.proofs.Counted.{step_zero, none_counted}
use Rattle.split.proofs.groups.seen_none_above.Goals as goal

pub returns-then-step_of-eq0 : goal.returns-then-step_of-eq0
returns-then-step_of-eq0 c =
    let step = c.step_of in
    let a = c.args in
    let at = box_at a.entries.now in
    let x = step_zero a.axis (sym step.ensures ∙ c.if-step_of-eq0.true) in
    let e = ap (λ (b : Axis). length (sift (above at a.avg b) a.places.now)) x ∙ sym (ap (λ (n : Counts). n.over) c.requires.2) in
    λ t. none_counted (above at a.avg a.axis) a.places.now (e ∙ eqb-true _ _ t)
