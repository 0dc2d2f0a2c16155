-- `bounds_prepare_bvh` meets its contract: what the entry ensures, with the numbers for its answer (prepare_answers AnswerLaws).
use Rattle.prepare_answers.proofs.AnswerLaws.{bvh_in}
use Rattle.bounds_prepare.proofs.bounds_prepare_bvh.Goals as goal

pub returns : goal.returns
returns c = bvh_in _ _ _ _ _ _ _ _ c.prepare_bvh.ensures c.answer.ensures
