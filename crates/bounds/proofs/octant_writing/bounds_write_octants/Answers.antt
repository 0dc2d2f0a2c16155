-- `bounds_write_octants` meets its contract: the answer by its number.
use Rattle.octant_bytes.proofs.Numbering.{numbered}
use Rattle.bounds.proofs.octant_writing.bounds_write_octants.Goals as goal

pub returns : goal.returns
returns c =
    numbered _ _ _ _ _ _ c.write_octants.ensures c.number.ensures
