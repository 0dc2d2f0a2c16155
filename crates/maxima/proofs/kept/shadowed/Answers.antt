-- `shadowed` says what `shadowed_at` does.
use Rattle.far_order.specs.Rows.{shadowed_at}
use Rattle.std.proofs.Common.{rules}
use Rattle.maxima.proofs.kept.shadowed.Goals as goal

pub returns-then-rows-n : goal.returns-then-rows-n
unfolding shadowed_at
returns-then-rows-n c = search rules

pub returns-else-rows-n : goal.returns-else-rows-n
unfolding shadowed_at
returns-else-rows-n c = search rules
