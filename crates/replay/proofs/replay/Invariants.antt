-- `replay` is safe: the line so far has at most 256 bytes.
use Rattle.std.proofs.Common.{◌≡◌, ◌≤◌, length}
use Rattle.replay.proofs.replay.Given as goal

abbrev pub invariant-loop : goal.invariant-loop
invariant-loop l = (l.at ≤ 256) × (length l.line ≡ 256) × (36 ≤ length l.cases) × (36 ≤ length l.misses) × (length l.cases ≡ length l.initial.cases) × (length l.misses ≡ length l.initial.misses)
