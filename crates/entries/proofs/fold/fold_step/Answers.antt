-- `fold::fold_step` meets its contract: what the two calls ensure.
use Rattle.entries.proofs.fold.fold_step.Goals as goal

pub returns : goal.returns
returns c = λ i. record { min = c.vmin_words.ensures i; max = c.vmax_words.ensures i }
