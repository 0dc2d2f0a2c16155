-- What the C interface answers of a walk. Definitions only.
use Rattle.std.specs.Prelude.{◌≡◌, ℕ, List}
use Rattle.base.specs.Lists.{over}
use Rattle.walk.specs.declared.slices.Counts.{Counts}
use Rattle.walk_steps.specs.declared.state.Sizes.{Sizes}
use Rattle.walk.specs.Walks.{Walk, Outcome, number_of, counts_of}
use Rattle.answers.specs.declared.walks.WalkAnswer.{WalkAnswer}

-- how many nodes, trees and items there are
abbrev pub sizes_of : ℕ → ℕ → ℕ → Sizes
sizes_of nodes trees items = record { nodes = nodes; trees = trees; items = items }

unfoldable pub counted : ℕ → Counts → WalkAnswer
counted n c = record { refusal = n; reads = c.reads; handed = c.handed }

-- Rule W9 (01, What each operation turns down): the number and the counts of each answer.
abbrev pub walk_answer : Walk → WalkAnswer
walk_answer w = counted (number_of w) (counts_of w)

-- Rule W9 (01: the output keeps what was handed out before, the rest is unchanged): the answer r, and the output whole.
pub record WalkAnswered (o : Outcome) (out out' : List ℕ) (r : WalkAnswer) : Type 0 where
  pub answer : r ≡ counted o.number o.counts
  pub output_is : out' ≡ over o.given out
