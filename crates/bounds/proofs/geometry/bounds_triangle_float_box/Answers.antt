-- `bounds_triangle_float_box`: what its calls ensure; where a vertex is not there, a NaN stands for the float behind it.
use mathlib.Core.Path.{◌∙◌}
use Rattle.float_boxes.specs.Floats.{box_of_three, nan_in_three}
use Prim.Native.Nat.{◌%◌}
use Rattle.float_boxes.specs.declared.Vertices4.{Vertices4}
use Rattle.float_boxes.proofs.NanLaws.{three_not_there}
use Rattle.float_boxes.proofs.TestLaws.{not_told_by, told_by_test}
use Rattle.bounds.proofs.geometry.bounds_triangle_float_box.Goals as goal

pub vertices_at-v-requires : goal.vertices_at-v-requires
vertices_at-v-requires c = c.within.ensures.0 c.if-within.true

pub returns-then-nan_in_three : goal.returns-then-nan_in_three
returns-then-nan_in_three c =
    not_told_by (λ (v : Vertices4). nan_in_three v) (λ (v : Vertices4). box_of_three v)
    c.vertices_at-v.ensures c.nan_in_three.ensures c.if-nan_in_three.true c.not_told.ensures

pub returns-then-within : goal.returns-then-within
returns-then-within c =
    told_by_test (λ (v : Vertices4). nan_in_three v) (λ (v : Vertices4). box_of_three v)
    c.vertices_at-v.ensures c.nan_in_three.ensures c.if-nan_in_three.false c.box_of_three.ensures

pub returns : goal.returns
returns c =
    let s = c.args in
    let past = c.within.ensures.1 c.if-within.false in
    c.not_told-2.ensures ∙ rw (three_not_there s.vertices.now (s.v1 % 32768) (s.v2 % 32768) (s.v3 % 32768) past)
