-- What the counts hold after a text: every line judged, and counted at its operation's number, 0 for a line that is no case. Definitions only.
use Rattle.std.specs.Prelude.{◌≡◌, ℕ, ◌+◌, ◌%◌, ◌^◌, cond, List, [], ◌∷◌, ◌++◌, length, ◌≢◌, nat_lt, slice_index, slice_set}
use Rattle.replay.specs.Outcomes.{Judged}
use Rattle.replay.specs.declared.outcome.Outcome.{Outcome}
use Rattle.replay.specs.declared.outcome.Outcome.TheVariants.{Match, Mismatch, Bad}

-- One more, at most the largest number of 64 bits.
abbrev pub one_more : ℕ → ℕ
one_more n = cond (nat_lt n 0xffff_ffff_ffff_ffff) (n + 1) n

unfoldable pub bumped : List ℕ → ℕ → List ℕ
bumped counts place = slice_set counts place (one_more (slice_index counts place))

abbrev pub place_of : Outcome → ℕ
place_of (Match n) = n
place_of (Mismatch n) = n
place_of Bad = 0

abbrev pub cases_after : Outcome → List ℕ → List ℕ
cases_after o cases = bumped cases (place_of o)

abbrev pub misses_after : Outcome → List ℕ → List ℕ
misses_after (Match n) misses = misses
misses_after (Mismatch n) misses = bumped misses n
misses_after Bad misses = misses

-- The line so far, of which 256 bytes are kept (no case has so many), and the counts.
pub record State : Type 0 where
  pub line : List ℕ
  pub cases : List ℕ
  pub misses : List ℕ

abbrev pub state_of : List ℕ → List ℕ → List ℕ → State
state_of l cs ms = record { line = l; cases = cs; misses = ms }

abbrev pub grown : List ℕ → ℕ → List ℕ
grown l b = cond (nat_lt (length l) 256) (l ++ (b ∷ [])) l

-- At the end of a line: it is judged, its outcome is counted, and the next line is empty. A line has one outcome.
pub record Ended (s t : State) : Type 0 where
  pub outcome : Outcome
  pub judged : Judged s.line outcome
  pub next : t ≡ state_of [] (cases_after outcome s.cases) (misses_after outcome s.misses)

-- What a byte does: 10 ends the line, any other is put behind it.
pub record After (s : State) (b : ℕ) (t : State) : Type 0 where
  pub ends : b ≡ 10 → Ended s t
  pub grows : (b ≢ 10) → t ≡ state_of (grown s.line b) s.cases s.misses

pub record Via (P Q : State → Type 0) : Type 0 where
  pub mid : State
  pub first : P mid
  pub rest : Q mid

-- What a text does: the fold of what its bytes do.
abbrev pub Fed : List ℕ → State → State → Type 0
Fed [] s t = t ≡ s
Fed (b ∷ bs) s t = Via (After s b) (λ (m : State). Fed bs m t)

-- At the end of the input, a line without its end is no case.
abbrev pub finished : ℕ → List ℕ → List ℕ
finished at cases = cond (nat_lt 0 at) (bumped cases 0) cases

-- The sum, modulo 2 to the 64.
abbrev pub total_from : ℕ → List ℕ → ℕ
total_from sum [] = sum
total_from sum (n ∷ ns) = total_from ((sum + n) % 2 ^ 64) ns
