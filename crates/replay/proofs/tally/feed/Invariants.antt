-- `tally::feed` meets its contract: what is left of the text does, from where it was taken to, what all of it does.
use Rattle.std.proofs.Common.{◌≡◌, ◌≤◌, length as Len, take}
use Rattle.replay.specs.Tallies.{state_of}
use Rattle.replay.proofs.TallyLaws.{Taking}
use Rattle.replay.proofs.tally.feed.Given as goal

abbrev pub invariant-loop-byte : goal.invariant-loop-byte
invariant-loop-byte l = (l.length ≤ 256) × (Len l.line ≡ 256) × (36 ≤ Len l.cases) × (36 ≤ Len l.misses)
    × (Len l.line ≡ Len l.initial.line) × (Len l.cases ≡ Len l.initial.cases) × (Len l.misses ≡ Len l.initial.misses)
    × Taking l.text l.byte-index (state_of (take l.at l.initial.line) l.initial.cases l.initial.misses) (state_of (take l.length l.line) l.cases l.misses)
