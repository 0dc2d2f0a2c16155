-- `bounds_build_materials` meets its contract: what the list's entry ensures, with the number for its answer (GeometryLaws).
use Rattle.polygon_answers.proofs.GeometryLaws.{materials_answered}
use Rattle.bounds.proofs.geometry.bounds_build_materials.Goals as goal

pub returns : goal.returns
returns c =
    materials_answered _ _ _ _ _ _ _ _ _ _ c.build_materials.ensures c.materials_answer.ensures
