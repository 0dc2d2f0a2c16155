-- `casts::vertex_value` meets its contract: a stored vertex is truncated as a query's corner is.
use Rattle.std.proofs.Common.{rules}
use Rattle.float32.specs.Casts.{vertex_of}
use Rattle.float32.proofs.casts.vertex_value.Goals as goal

pub returns : goal.returns
unfolding vertex_of
returns c = search rules
