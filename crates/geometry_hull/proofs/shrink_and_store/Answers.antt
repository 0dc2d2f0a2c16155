-- `shrink_and_store` meets its contract: what is listed and stored are the shrunk points (HullLaws).
use Rattle.geometry_hull.proofs.HullLaws.{of_points}
use Rattle.geometry_hull.proofs.shrink_and_store.Goals as goal

pub returns : goal.returns
returns c =
    of_points _ _ c.list_and_store.ensures c.shrink_linked.ensures
