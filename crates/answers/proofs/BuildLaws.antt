-- What the build's answer says of the C interface's. Assumes nothing.
use Rattle.std.specs.Prelude.{◌≡◌, ℕ}
use mathlib.Core.Path.{ap, ◌∙◌}
use Rattle.bvh.specs.declared.slices.Lengths.{Lengths}
use Rattle.bvh.specs.Build.{Build, Entries, kept, nodes_written, trees_written, order_written}
use Rattle.bvh.specs.Entry.{Outputs, Answered}
use Rattle.answers.specs.declared.trees.BuildAnswer.{BuildAnswer}
use Rattle.answers.specs.Trees.{build_answer, Answers}

pub answers : (e : Entries) (th : ℕ) (l : Lengths) (b : Build) (r : BuildAnswer) (before after : Outputs)
    → Answered e th l b before after → r ≡ build_answer b → Answers e th l r before after
answers e th l b r before after a given =
    record {
      answer = given ∙ ap build_answer a.answer;
      nodes_are = a.nodes_are ∙ ap (λ (x : Build). kept x (nodes_written e th) before.nodes) a.answer;
      trees_are = a.trees_are ∙ ap (λ (x : Build). kept x (trees_written e th) before.trees) a.answer;
      order_is = a.order_is ∙ ap (λ (x : Build). kept x (order_written e th) before.order) a.answer;
    }
