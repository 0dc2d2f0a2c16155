-- `bounds_calculate_verts_shrunk` meets its contract: what the entry ensures, with the numbers for its answer (shrink_answers AnswerLaws).
use Rattle.shrink_answers.proofs.AnswerLaws.{answered_in}
use Rattle.bounds.proofs.shrunk.bounds_calculate_verts_shrunk.Goals as goal

pub returns : goal.returns
returns c = answered_in _ _ _ _ _ _ _ _ _ _ c.calculate_verts_shrunk.ensures c.answer.ensures
