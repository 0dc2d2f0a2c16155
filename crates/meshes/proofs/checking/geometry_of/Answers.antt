-- `geometry_of`: the box as floats, and the rest as it is.
use Rattle.meshes.proofs.checking.geometry_of.Goals as goal

pub returns : goal.returns
returns c = cc
