-- `put_keys`: three parts, one after the other.
use Rattle.octants.proofs.PartLaws.{keyed}
use Rattle.octants.proofs.keys.put_keys.Goals as goal

pub returns : goal.returns
returns c =
    keyed _ _ _ _ _ _ c.put_axis.ensures c.put_axis-2.ensures c.put_axis-3.ensures
