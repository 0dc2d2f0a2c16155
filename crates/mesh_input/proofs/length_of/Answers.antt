-- `length_of`: the counts are the header's.
use Rattle.mesh_input.specs.Input.{counts_of}
use native.Mathlib.Omega.{arith}
use Rattle.mesh_input.proofs.length_of.Goals as goal

pub returns : goal.returns
unfolding counts_of
returns c = omega (arith, c.word_at-polygons.ensures, c.word_at-vertices.ensures, c.word_at-materials.ensures)
