-- `finish_tree` meets its contract: with a tree what is written at the end in its frame, else nothing.
use Rattle.std.specs.Prelude.{Ok}
use mathlib.Core.Path.{refl}
use Rattle.checked_bvh.proofs.Endings.{ended_built, ended_refused}
use Rattle.checked_bvh.proofs.ending.finish_tree.Goals as goal

pub returns-in_default : goal.returns-in_default
returns-in_default c = ended_refused _ _ _ _ _ _ _ _ _ _ _ _ _ _ c.in_default.is refl refl refl refl

pub finish-materials-requires : goal.finish-materials-requires
finish-materials-requires c =
    c.requires

pub returns : goal.returns
returns c =
    let f = c.finish-materials.ensures in
    let built = c.in-Ok.is in
    ended_built _ _ _ _ _ _ _ _ _ _ _ _ _ _ built _ c.frame_of-frame.ensures _ c.quantum_of-unit.ensures _ f.0 f.1
