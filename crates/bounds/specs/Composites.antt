-- What the C interface answers of a composite's tree. Definitions only.
use Rattle.std.specs.Prelude.{ℕ, List, ◌≡◌, Some, None, Ok, Err}
use Rattle.bvh.specs.Build.{nodes_written, trees_written, order_written}
use Rattle.bvh.specs.Entry.{Outputs}
use Rattle.bvh.specs.declared.slices.Lengths.{Lengths}
use Rattle.composite.specs.Trees.{CompositeTree, child_limit, child_entries, tree_above, kept}
use Rattle.answers.specs.declared.trees.BuildAnswer.{BuildAnswer}
use Rattle.answers.specs.Trees.{refused_by, build_answer}

-- Rule C3: the number and the values of each answer. No tree is zeros throughout; a tree has a node.
abbrev pub composite_answer : CompositeTree → BuildAnswer
composite_answer (Ok None) = refused_by 0
composite_answer (Ok (Some b)) = build_answer (Ok b)
composite_answer (Err why) = build_answer (Err why)

-- Rule C3: the answer r of a composite of n children, and the three outputs whole.
pub record CompositeAnswered (n : ℕ) (ws : List ℕ) (l : Lengths) (r : BuildAnswer) (before after : Outputs) : Type 0 where
  pub answer : r ≡ composite_answer (tree_above child_limit n ws l)
  pub nodes_are : after.nodes ≡ kept (tree_above child_limit n ws l) (nodes_written (child_entries n ws) 1) before.nodes
  pub trees_are : after.trees ≡ kept (tree_above child_limit n ws l) (trees_written (child_entries n ws) 1) before.trees
  pub order_is : after.order ≡ kept (tree_above child_limit n ws l) (order_written (child_entries n ws) 1) before.order
