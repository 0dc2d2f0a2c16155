-- The run of sides that a linking has come to. Definitions only.
use Rattle.std.specs.Prelude.{ℕ, ◌+◌, Option, Some, None}
use Rattle.side_order.specs.declared.runs.Run.{Run}

-- one more than the run's key, 0 before the first run
abbrev pub past_run : Option Run → ℕ
past_run None = 0
past_run (Some r) = r.key + 1

abbrev pub first_of : Option Run → ℕ
first_of None = 0
first_of (Some r) = r.first.0
