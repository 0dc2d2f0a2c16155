-- The units of a tree's records (01, Tree build; bvh.rs, build_bvh): rule T2, each axis by itself. Definitions only.
use Rattle.std.specs.Prelude.{Float}
use Rattle.math.specs.Stored.{values_of}
use Rattle.math.specs.Vec3s.{both}
use Rattle.math.specs.declared.words3.Words3.{Words3}
use Rattle.records.specs.Axis.{centre, quantum, inverse}
use Rattle.records.specs.declared.scale.AxisScale.{AxisScale}
use Rattle.records.specs.declared.scale.Scale.{Scale}

-- the units on one axis of the box from lo to hi
abbrev pub axis_scale_of : Float → Float → AxisScale
axis_scale_of lo hi = record { cen = centre lo hi; inverse = inverse lo hi; quantum = quantum lo hi }

-- Rule T2, of a box in words.
unfoldable pub scale_of_box : Words3 → Words3 → Scale
scale_of_box min max =
    let low = values_of min in
    let high = values_of max in
    record { cen = both centre low high; inverse = both inverse low high; quantum = both quantum low high }
