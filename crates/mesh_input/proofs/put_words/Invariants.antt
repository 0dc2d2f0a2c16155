-- `put_words`: the first i words are read.
use Rattle.mesh_input.proofs.Laws.{Reading}
use Rattle.mesh_input.proofs.put_words.Given as goal

abbrev pub invariant-loop-i : goal.invariant-loop-i
invariant-loop-i l = Reading l.bytes l.at l.initial.out l.out l.i l.n
