-- `bound_of`: each part where it stands.
use mathlib.Core.Path.{ap, ◌∙◌}
use Rattle.math.specs.Stored.{values_of}
use Rattle.mesh_input.specs.Input.{bound_of}
use Rattle.mesh_input.proofs.bound_of.Goals as goal

pub returns : goal.returns
unfolding bound_of
returns c =
    λ i. record {
      kind = c.word_at.ensures i;
      frame = c.frame_of.ensures i;
      margin = c.float_at.ensures i;
      center = (c.values.ensures ∙ ap values_of c.words3_at.ensures) i;
      transform = c.transform_of.ensures i;
    }
