-- `operation::count` meets its contract: none of the table's entries is above 28.
use Rattle.replay.proofs.Numbering.{count_table, count_few}
use Rattle.replay.proofs.operation.count.Goals as goal

pub returns-clause-upper_bound : goal.returns-clause-upper_bound
unfolding count_table
returns-clause-upper_bound c = count_few c.args.n
