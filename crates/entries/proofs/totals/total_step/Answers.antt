-- `totals::total_step` meets its contract: what the calls ensure.
use mathlib.Core.Path.{ap, ◌∙◌}
use Rattle.math.specs.declared.vec3.Vec3.{Vec3}
use Rattle.math.specs.Vec3s.{add_of, vmin3_of, vmax3_of}
use Rattle.entries.specs.Steps.Totals.{totals_by}
use Rattle.entries.proofs.totals.total_step.Goals as goal

pub returns : goal.returns
returns c =
    let b = c.args.b in
    let low = c.vmin.ensures ∙ ap (λ (v : Vec3). vmin3_of v b.low) c.low_of.ensures in
    let once = c.add.ensures ∙ ap (λ (v : Vec3). add_of v b.low) c.sum_of.ensures in
    let sum = c.add-2.ensures ∙ ap (λ (v : Vec3). add_of v b.high) once in
    let high = c.vmax.ensures ∙ ap (λ (v : Vec3). vmax3_of v b.high) c.high_of.ensures in
    c.totals_by.ensures ∙ (λ i. totals_by (low i) (sum i) (high i))
