-- `scale::scale_of` meets its contract: what `axis_scale` ensures on each axis, put side by side.
use mathlib.Core.Path.{ap₂, ◌∙◌}
use Rattle.math.specs.declared.vec3.Vec3.{Vec3}
use Rattle.records.specs.Scale.{axis_scale_of, scale_of_box}
use Rattle.records.specs.declared.scale.AxisScale.{AxisScale}
use Rattle.records.specs.declared.scale.Scale.{Scale}
use Rattle.records.proofs.scale.scale_of.Goals as goal

-- the units of three axes
abbrev together : AxisScale → AxisScale → AxisScale → Scale
together a b c =
    record {
      cen = record { x = a.cen; y = b.cen; z = c.cen };
      inverse = record { x = a.inverse; y = b.inverse; z = c.inverse };
      quantum = record { x = a.quantum; y = b.quantum; z = c.quantum };
    }

pub returns : goal.returns
unfolding scale_of_box
returns c =
    (λ i. together (c.axis_scale-x.ensures i) (c.axis_scale-y.ensures i) (c.axis_scale-z.ensures i))
    ∙ ap₂ (λ (l h : Vec3). together (axis_scale_of l.x h.x) (axis_scale_of l.y h.y) (axis_scale_of l.z h.z))
    c.values-low.ensures c.values-high.ensures
