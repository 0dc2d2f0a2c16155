-- `found` meets its contract: no refusal, and the struct that the call ensures.
use Rattle.polygon_answers.proofs.found.Goals as goal

pub returns : goal.returns
returns c = cc
