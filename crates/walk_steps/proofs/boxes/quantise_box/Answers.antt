-- `boxes::quantise_box` meets its contract: corner by corner what `quantise_query` ensures.
use Rattle.walk_steps.specs.Boxes.{query_of}
use Rattle.walk_steps.proofs.boxes.quantise_box.Goals as goal

pub returns : goal.returns
unfolding query_of
returns c = λ i. record { min = c.quantise_query.ensures i; max = c.quantise_query-2.ensures i }
