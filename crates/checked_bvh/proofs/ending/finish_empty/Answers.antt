-- `finish_empty` meets its contract: what is written at the end, in the units of the given frame.
use mathlib.Core.Path.{refl, ap}
use Rattle.prepared.specs.declared.Prepared.TheVariants.{Empty}
use Rattle.checked_bvh.proofs.Endings.{values_are, lists_written}
use Rattle.checked_bvh.proofs.ending.finish_empty.Goals as goal

pub returns : goal.returns
returns c =
    let f = c.finish-materials.ensures in
    let q = c.quantum_of-quantum.ensures in
    (ap Empty (values_are _ _ refl _ q _ _ _ _ _ _ f.0), lists_written _ _ refl _ q _ _ _ _ _ _ _ _ _ _ _ _ f.0 f.1)
