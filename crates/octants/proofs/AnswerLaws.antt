-- What the entry's answer says of the C interface's. Assumes nothing.
use Prim.Native.Nat.{ℕ}
use mathlib.Core.List.{List}
use mathlib.Core.Path.{◌≡◌, ap, ◌∙◌}
use Rattle.octants.specs.Answers.{answer_in, AnsweredIn}
use Rattle.octants.specs.Octants.{kept, listed, Answered}
use Rattle.octants.specs.declared.answering.OctantsAnswer.{OctantsAnswer}
use Rattle.octants.specs.declared.entry.Lengths.{Lengths}
use Rattle.octants.specs.declared.entry.OctantsRefusal.{OctantsRefusal}
use Rattle.octants.specs.declared.lists.OctantCounts.{OctantCounts}
use Rattle.std.proofs.Common.{Result}

pub answered_in : (n : ℕ) (l : Lengths) (ws before after : List ℕ) (o : Result OctantCounts OctantsRefusal) (r : OctantsAnswer) → Answered n l ws before after o
    → r ≡ answer_in o → AnsweredIn n l ws before after r
answered_in n l ws before after o r a given =
    record {
      answer = given ∙ ap answer_in a.answer;
      lists_are = a.lists_are ∙ ap (λ (x : Result OctantCounts OctantsRefusal). kept x (listed n ws before) before) a.answer;
    }
