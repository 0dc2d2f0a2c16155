-- `bounds_relate` meets its contract: the number of the relation that the call ensures.
use mathlib.Core.Path.{ap, ◌∙◌}
use Rattle.answers.specs.Numbers.{relation_number}
use Rattle.bounds.proofs.bounds_relate.Goals as goal

pub returns : goal.returns
returns c = c.relation_number.ensures ∙ ap relation_number c.relate.ensures
