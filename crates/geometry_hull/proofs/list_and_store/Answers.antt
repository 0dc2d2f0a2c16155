-- `list_and_store` meets its contract: the lists and the stored points, side by side (HullLaws).
use Rattle.geometry_hull.proofs.HullLaws.{left}
use Rattle.geometry_hull.proofs.list_and_store.Goals as goal

pub returns : goal.returns
returns c =
    left _ _ _ _ _ _ _ _ _ _ c.list_octants-counts.ensures c.put_stored.ensures
