-- What the answer of a walk says of the C interface's. Assumes nothing.
use Rattle.std.specs.Prelude.{◌≡◌, ℕ, List}
use mathlib.Core.Path.{ap, subst, ◌∙◌}
use Rattle.walk.specs.declared.slices.Counts.{Counts}
use Rattle.walk_steps.specs.declared.state.Sizes.{Sizes}
use Rattle.walk.specs.Walks.{Walk, Outcome, Promise, counts_of}
use Rattle.answers.specs.declared.walks.WalkAnswer.{WalkAnswer}
use Rattle.answers.specs.WalkAnswers.{counted, walk_answer, WalkAnswered}

pub walk_answered : (o : Outcome) (out out' : List ℕ) (w : Walk) (r : WalkAnswer) → Promise o out out' w → r ≡ walk_answer w
    → WalkAnswered o out out' r
walk_answered o out out' w r p given =
    record {
      answer = given ∙ ap (λ (n : ℕ). counted n (counts_of w)) p.number_is ∙ ap (λ (k : Counts). counted o.number k) p.counts_are;
      output_is = p.output_is;
    }

-- over sizes that were made on the way
pub walk_answered_over : (over : Sizes → Outcome) (made s : Sizes) (out out' : List ℕ) (w : Walk) (r : WalkAnswer) → made ≡ s
    → Promise (over made) out out' w → r ≡ walk_answer w → WalkAnswered (over s) out out' r
walk_answered_over over made s out out' w r same p given =
    subst (λ (x : Sizes). WalkAnswered (over x) out out' r) same (walk_answered (over made) out out' w r p given)
