-- `boxes::meets_box` meets its contract: the three ways through it are how far the tests of the axes go.
use Rattle.base.proofs.Truth.{third, second, first}
use Rattle.walk_steps.specs.Boxes.{meets_box}
use Rattle.walk_steps.proofs.boxes.meets_box.Goals as goal

pub returns-then-overlap_f32-2 : goal.returns-then-overlap_f32-2
unfolding meets_box
returns-then-overlap_f32-2 c =
    third c.overlap_f32.ensures c.overlap_f32-then-overlap_f32.ensures c.overlap_f32-then-overlap_f32-2.ensures c.if-overlap_f32.true c.if-overlap_f32-2.true

pub returns-else-overlap_f32-2 : goal.returns-else-overlap_f32-2
unfolding meets_box
returns-else-overlap_f32-2 c = second _ c.overlap_f32.ensures c.overlap_f32-then-overlap_f32.ensures c.if-overlap_f32.true c.if-overlap_f32-2.false

pub returns-else-overlap_f32 : goal.returns-else-overlap_f32
unfolding meets_box
returns-else-overlap_f32 c = first _ c.overlap_f32.ensures c.if-overlap_f32.false
