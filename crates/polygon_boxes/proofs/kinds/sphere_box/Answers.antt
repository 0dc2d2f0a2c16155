-- `kinds::sphere_box`: what its calls ensure.
use Rattle.polygon_boxes.proofs.kinds.sphere_box.Goals as goal

pub returns : goal.returns
returns c = cc
