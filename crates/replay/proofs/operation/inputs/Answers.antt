-- `operation::inputs` meets its contract: the table's entry at each operation's number.
use Rattle.std.proofs.Common.{ℕ, get_or, ap, ◌∙◌}
use Rattle.replay.proofs.Numbering.{input_table, numbered}
use Rattle.replay.proofs.operation.inputs.Goals as goal

pub bounds-n : goal.bounds-n
bounds-n c = c.requires

pub returns : goal.returns
unfolding input_table
returns c = λ op e. ap (λ (k : ℕ). get_or input_table k 0) e ∙ (numbered op).inputs
