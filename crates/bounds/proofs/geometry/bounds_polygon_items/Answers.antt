-- `bounds_polygon_items` meets its contract: what the list's entry ensures, with the number for its answer (GeometryLaws).
use Rattle.polygon_answers.proofs.GeometryLaws.{items_answered}
use Rattle.bounds.proofs.geometry.bounds_polygon_items.Goals as goal

pub returns : goal.returns
returns c = items_answered _ _ _ _ _ _ _ c.polygon_items.ensures c.polygons_number.ensures
