-- Whether our answer to a line is the recorded one. Definitions only.
use Rattle.std.specs.Prelude.{◌≡◌, ℕ, ◌^◌, ◌<◌, Bool, true, false, List, length, take, drop, ◌≢◌, slice_index}
use Rattle.replay.specs.Answers.{answer_of, words_of}
use Rattle.replay.specs.Lines.{line_of}
use Rattle.replay.specs.Operations.{number_of, inputs_of, count_of}
use Rattle.replay.specs.declared.operation.Operation.{Operation}
use Rattle.replay.specs.declared.outcome.Outcome.{Outcome}
use Rattle.replay.specs.declared.outcome.Outcome.TheVariants.{Match, Mismatch, Bad}

-- Whether something holds.
abbrev pub Holds : Type 0 → Bool → Type 0
Holds P true = P
Holds P false = P → ⊥

-- Each is a number of 32 bits.
abbrev pub Words : List ℕ → Type 0
Words ws = (i : ℕ) → slice_index ws i < 2 ^ 32

-- The words after the inputs are those that the operation gives for the inputs.
abbrev pub Agrees : Operation → List ℕ → Type 0
Agrees op ws = drop (inputs_of op) ws ≡ words_of (answer_of op (take (inputs_of op) ws))

-- The line is that of a case of operation number n, of which P holds. A line determines its operation and its words.
pub record Case (P : Operation → List ℕ → Type 0) (n : ℕ) (line : List ℕ) : Type 0 where
  pub op : Operation
  pub words : List ℕ
  pub named : n ≡ number_of op
  pub whole : length words ≡ count_of op
  pub fits : Words words
  pub same : line ≡ line_of op words
  pub judged : P op words

abbrev pub Judged : List ℕ → Outcome → Type 0
Judged line (Match n) = Case Agrees n line
Judged line (Mismatch n) = Case (λ (op : Operation) (ws : List ℕ). Agrees op ws → ⊥) n line
Judged line Bad = (op : Operation) (ws : List ℕ) → length ws ≡ count_of op → line ≢ line_of op ws
