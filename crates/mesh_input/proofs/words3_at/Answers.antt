-- `words3_at`: three words, each where it stands.
use Rattle.mesh_input.specs.Input.{words3_at}
use Rattle.mesh_input.proofs.words3_at.Goals as goal

pub returns : goal.returns
unfolding words3_at
returns c = λ i. record { x = c.word_at.ensures i; y = c.word_at-2.ensures i; z = c.word_at-3.ensures i }
