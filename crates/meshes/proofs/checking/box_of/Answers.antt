-- `box_of`: both corners, word by word.
use Rattle.meshes.proofs.checking.box_of.Goals as goal

pub returns : goal.returns
returns c = cc
