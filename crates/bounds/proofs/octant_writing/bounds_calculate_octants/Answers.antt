-- `bounds_calculate_octants` meets its contract: what the octants' entry ensures, with the numbers for its answer (octants AnswerLaws).
use Rattle.octants.proofs.AnswerLaws.{answered_in}
use Rattle.bounds.proofs.octant_writing.bounds_calculate_octants.Goals as goal

-- past the six slices that come back, two facts each, the call
pub returns : goal.returns
returns c =
    answered_in _ _ _ _ _ _ _ c.calculate_octants.ensures c.answer.ensures
