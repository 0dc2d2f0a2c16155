-- What calculating octants answers in C. Definitions only.
use Rattle.std.specs.Prelude.{ℕ, List, ◌≡◌, Result, Ok, Err}
use Rattle.octants.specs.Octants.{answer_of, number_of, kept, listed}
use Rattle.octants.specs.declared.answering.OctantsAnswer.{OctantsAnswer}
use Rattle.octants.specs.declared.entry.Lengths.{Lengths}
use Rattle.octants.specs.declared.entry.OctantsRefusal.{OctantsRefusal}
use Rattle.octants.specs.declared.lists.OctantCounts.{OctantCounts}

unfoldable pub with_counts : OctantCounts → OctantsAnswer
with_counts c =
    record {
      refusal = 0;
      c0 = c.c0;
      c1 = c.c1;
      c2 = c.c2;
      c3 = c.c3;
      c4 = c.c4;
      c5 = c.c5;
      c6 = c.c6;
      c7 = c.c7;
    }

-- a refusal by its number, and no lists
unfoldable pub without : ℕ → OctantsAnswer
without n = record { refusal = n; c0 = 0; c1 = 0; c2 = 0; c3 = 0; c4 = 0; c5 = 0; c6 = 0; c7 = 0 }

-- Rule O3 (01, octants): the number and the counts of each answer.
abbrev pub answer_in : Result OctantCounts OctantsRefusal → OctantsAnswer
answer_in (Ok c) = with_counts c
answer_in (Err r) = without (number_of (Err r))

-- Rule O3: the answer r, and every word of the lists.
pub record AnsweredIn (n : ℕ) (l : Lengths) (ws before after : List ℕ) (r : OctantsAnswer) : Type 0 where
  pub answer : r ≡ answer_in (answer_of n l ws)
  pub lists_are : after ≡ kept (answer_of n l ws) (listed n ws before) before
