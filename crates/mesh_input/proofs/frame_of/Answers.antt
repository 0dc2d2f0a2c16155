-- `frame_of`: four points and a word.
use Rattle.mesh_input.specs.Input.{frame_of}
use Rattle.mesh_input.proofs.frame_of.Goals as goal

pub returns : goal.returns
unfolding frame_of
returns c =
    λ i. record {
      box_min = c.words3_at.ensures i;
      box_max = c.words3_at-2.ensures i;
      box_center = c.words3_at-3.ensures i;
      sphere_center = c.words3_at-4.ensures i;
      sphere_radius = c.word_at.ensures i;
    }
