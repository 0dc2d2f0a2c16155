-- Point 3 of the request, from the contract of a build alone: whatever answers a build that is not refused, by the definition and with its bytes,
-- has well formed records, and the walk over them delivers. What a crate above needs; it holds for entries in words (`words_listed`)
-- and for a list of items (`items_listed`).
use Rattle.std.specs.Prelude.{◌≡◌, ℕ, Ok}
use mathlib.Core.Path.{sym, subst}
use Rattle.base.specs.Lists.{over}
use Rattle.math.specs.declared.aabb.Aabb.{Aabb}
use Rattle.bvh.specs.declared.slices.BuiltTree.{BuiltTree}
use Rattle.bvh.specs.declared.slices.Lengths.{Lengths}
use Rattle.bvh.specs.Build.{Entries, tree_of, built_of, nodes_written, trees_written, order_written}
use Rattle.bvh.specs.Entry.{Outputs, outputs, Answered}
use Rattle.tree.specs.Pair.{outcome_of, Delivered}
use Rattle.tree.specs.WellFormed.{WellFormed}
use Rattle.tree.proofs.AnswerLaws.{Passed, built_passed, Listed, stands}
use Rattle.tree.proofs.RecordLaws.{formed, delivered}

module _ (e : Entries) (listed : Listed e) (th : ℕ) (l : Lengths) (before after : Outputs) (b : BuiltTree)
    (build : Answered e th l (Ok b) before after) where
  passed : Passed e th b
  passed = built_passed e th l b build.answer

  after_is : outputs (over (nodes_written e th) before.nodes) (over (trees_written e th) before.trees) (over (order_written e th) before.order) ≡ after
  after_is = λ i. outputs (sym build.nodes_are i) (sym build.trees_are i) (sym build.order_is i)

  -- what holds of the definition's tree and outputs holds of the answer and the bytes
  by_definition : (P : BuiltTree → Outputs → Type 0)
      → P (built_of e th (tree_of e th))
      (outputs (over (nodes_written e th) before.nodes) (over (trees_written e th) before.trees) (over (order_written e th) before.order))
      → P b after
  by_definition P p = subst (λ (v : BuiltTree). P v after) (sym passed.values) (subst (P (built_of e th (tree_of e th))) after_is p)

  -- whatever the boxes
  pub records_well_formed : WellFormed e th b after
  records_well_formed = by_definition (WellFormed e th) (formed e th (stands e th b listed passed) before)

  -- whatever the query and the length of the output
  pub walk_delivers : (query : Aabb) (room : ℕ) → Delivered e th query b after room (outcome_of e th query b after room)
  walk_delivers query room =
      by_definition (λ (v : BuiltTree) (o : Outputs). Delivered e th query v o room (outcome_of e th query v o room))
      (delivered e th (stands e th b listed passed) before query room)
