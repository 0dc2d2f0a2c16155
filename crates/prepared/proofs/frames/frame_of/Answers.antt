-- `frame_of`: the words as they are, and the centre and the radius as words.
use Rattle.prepared.specs.Rebuilt.{frame_of}
use Rattle.prepared.proofs.frames.frame_of.Goals as goal

pub returns : goal.returns
unfolding frame_of
returns c = cc
