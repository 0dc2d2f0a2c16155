-- `bounds_update_edge_indices` meets its contract: what the links' entry ensures, with the number for its answer (GeometryLaws).
use Rattle.polygon_answers.proofs.GeometryLaws.{edges_answered}
use Rattle.bounds.proofs.geometry.bounds_update_edge_indices.Goals as goal

-- past the six slices that come back, two facts each, the call
pub returns : goal.returns
returns c =
    edges_answered _ _ _ _ _ _ c.update_edge_indices.ensures c.polygons_number.ensures
