-- `numbers::ordering_number` meets its contract: a number for each case.
use Rattle.answers.proofs.numbers.ordering_number.Goals as goal

pub returns-in-Less : goal.returns-in-Less
returns-in-Less c = cc

pub returns-in-Equal : goal.returns-in-Equal
returns-in-Equal c = cc

pub returns-in-Greater : goal.returns-in-Greater
returns-in-Greater c = cc
