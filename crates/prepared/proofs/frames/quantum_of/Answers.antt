-- `quantum_of`: the quantum of the box as floats.
use Rattle.prepared.proofs.frames.quantum_of.Goals as goal

pub returns : goal.returns
returns c = cc
