-- `bounds_moved_float_box`: what its calls ensure; where a vertex is not there, a NaN stands for the float behind it.
use mathlib.Core.Path.{◌∙◌}
use Rattle.float_boxes.specs.Floats.{told_box, least_of, greatest_of, nan_in_sums}
use Rattle.float_boxes.specs.declared.Vertices4.{Vertices4}
use Rattle.float_boxes.proofs.NanLaws.{four_not_there}
use Rattle.float_boxes.proofs.TestLaws.{not_told_by, told_by_test}
use Rattle.bounds.proofs.geometry.bounds_moved_float_box.Goals as goal

pub vertices_at-v-requires : goal.vertices_at-v-requires
vertices_at-v-requires c = c.within.ensures.0 c.if-within.true

pub returns-then-nan_in_sums : goal.returns-then-nan_in_sums
returns-then-nan_in_sums c =
    let s = c.args in
    let low = s.low in
    let high = s.high in
    not_told_by (λ (v : Vertices4). nan_in_sums v low high) (λ (v : Vertices4). told_box (least_of v low) (greatest_of v high))
    c.vertices_at-v.ensures c.nan_in_sums.ensures c.if-nan_in_sums.true c.not_told.ensures

pub returns-then-within : goal.returns-then-within
returns-then-within c =
    let s = c.args in
    let low = s.low in
    let high = s.high in
    told_by_test (λ (v : Vertices4). nan_in_sums v low high) (λ (v : Vertices4). told_box (least_of v low) (greatest_of v high))
    c.vertices_at-v.ensures c.nan_in_sums.ensures c.if-nan_in_sums.false c.moved_box.ensures

pub returns : goal.returns
returns c =
    let s = c.args in
    let past = c.within.ensures.1 c.if-within.false in
    c.not_told-2.ensures ∙ rw (four_not_there s.vertices.now s.i1 s.i2 s.i3 s.i4 s.low s.high past)
