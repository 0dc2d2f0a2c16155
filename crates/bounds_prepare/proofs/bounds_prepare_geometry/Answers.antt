-- `bounds_prepare_geometry` meets its contract: what the entry ensures, with the numbers for its answer (prepare_answers AnswerLaws).
use Rattle.prepare_answers.proofs.AnswerLaws.{geometry_in}
use Rattle.bounds_prepare.proofs.bounds_prepare_geometry.Goals as goal

pub returns : goal.returns
returns c = geometry_in _ _ _ _ _ _ _ _ c.prepare_geometry.ensures c.answer.ensures
