-- `counts_of`: three words, each where it stands.
use Rattle.mesh_input.specs.Input.{counts_of}
use Rattle.mesh_input.proofs.counts_of.Goals as goal

pub returns : goal.returns
unfolding counts_of
returns c = λ i. record { polygons = c.word_at.ensures i; vertices = c.word_at-2.ensures i; materials = c.word_at-3.ensures i }
