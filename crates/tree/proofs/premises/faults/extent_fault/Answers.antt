-- `faults::extent_fault` meets its contract: the half extents are those of the words' floats.
use mathlib.Core.Path.{ap₂, ◌∙◌}
use Rattle.math.specs.declared.vec3.Vec3.{Vec3}
use Rattle.records.specs.Axis.{extent}
use Rattle.tree.specs.premises.Faults.{sound, failing, extent_fault}
use Rattle.tree.proofs.premises.faults.extent_fault.Goals as goal

pub returns : goal.returns
unfolding extent_fault
returns c =
    let l = c.values-low.ensures in
    let h = c.values-high.ensures in
    let x = c.sound_between-x.ensures ∙ ap₂ (λ (l h : Vec3). sound (extent l.x h.x)) l h in
    let y = c.sound_between-y.ensures ∙ ap₂ (λ (l h : Vec3). sound (extent l.y h.y)) l h in
    let z = c.sound_between-z.ensures ∙ ap₂ (λ (l h : Vec3). sound (extent l.z h.z)) l h in
    c.failing.ensures ∙ (λ i. failing 10 (x i) (y i) (z i) 0)
