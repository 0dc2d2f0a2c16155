-- `kinds::capsule_box`: what its calls ensure.
use Rattle.polygon_boxes.proofs.kinds.capsule_box.Goals as goal

pub returns : goal.returns
returns c = cc
