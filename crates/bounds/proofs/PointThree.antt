-- Point 3 of the request at the C interface, from the contracts of `bounds_build_bvh` and `bounds_walk` alone. The answer with refusal 0 is that of a tree
-- that was built; tree's PointThree says of its records and of the walk over them what is to be shown; and the positions handed out are the first
-- places of the output.
use Rattle.std.specs.Prelude.{Ok, Err}
use Prim.Native.Nat.{ℕ}
use native.Mathlib.Omega.{arith}
use mathlib.Core.List.{List, Memᴰ}
use mathlib.Core.Path.{◌≡◌, refl, sym, ap, ap₂, ◌∙◌, subst}
use lib.ListN.{length, take, drop}
use lib.Seq.{take-append_seam}
use Rattle.base.specs.Lists.{over}
use Rattle.math.specs.declared.aabb.Aabb.{Aabb}
use Rattle.bvh.specs.declared.slices.BuiltTree.{BuiltTree}
use Rattle.bvh.specs.declared.slices.Lengths.{Lengths}
use Rattle.bvh.specs.declared.items.BvhItem.{BvhItem}
use Rattle.bvh.specs.Build.{Build, Entries, answer_of, kept, refusal_number, nodes_written, trees_written, order_written}
use Rattle.bvh.specs.Entry.{Outputs, Answered, entries_in, entries_of}
use Rattle.walk.specs.Walks.{Outcome}
use Rattle.tree.specs.Pair.{outcome_of, Delivered}
use Rattle.tree.specs.WellFormed.{WellFormed}
use Rattle.tree.proofs.AnswerLaws.{refusal_numbered, Listed, words_listed, items_listed}
use Rattle.tree.proofs.PointThree.{records_well_formed, walk_delivers}
use Rattle.answers.specs.declared.trees.BuildAnswer.{BuildAnswer}
use Rattle.answers.specs.declared.walks.WalkAnswer.{WalkAnswer}
use Rattle.bounds.specs.PointThree.{WalkedOver, handed_out, PointThree}
use Rattle.answers.specs.Trees.{refused_by, tree_values, build_answer, Answers}
use Rattle.answers.specs.WalkAnswers.{counted, WalkAnswered}

-- ---- the build

-- the tree that an answer with refusal 0 tells of
record OfTree (e : Entries) (th : ℕ) (l : Lengths) (r : BuildAnswer) (before after : Outputs) : Type 0 where
  pub tree : BuiltTree
  pub answered : Answered e th l (Ok tree) before after
  pub values : r ≡ tree_values tree

of_tree : (e : Entries) (th : ℕ) (l : Lengths) (r : BuildAnswer) (before after : Outputs) (x : Build) → x ≡ answer_of e th l
    → Answers e th l r before after → r.refusal ≡ 0 → OfTree e th l r before after
unfolding refused_by
of_tree e th l r before after (Ok b) same a zero =
    record {
      tree = b;
      answered =
          record {
            answer = same;
            nodes_are = a.nodes_are ∙ ap (λ (x : Build). kept x (nodes_written e th) before.nodes) (sym same);
            trees_are = a.trees_are ∙ ap (λ (x : Build). kept x (trees_written e th) before.trees) (sym same);
            order_is = a.order_is ∙ ap (λ (x : Build). kept x (order_written e th) before.order) (sym same);
          };
      values = a.answer ∙ ap build_answer (sym same);
    }
of_tree e th l r before after (Err why) same a zero =
    let n : r.refusal ≡ refusal_number why = ap (λ (x : BuildAnswer). x.refusal) (a.answer ∙ ap build_answer (sym same)) in
    absurd (omega (arith, n, zero, refusal_numbered why))

-- ---- the walk

module _ (e : Entries) (th : ℕ) (query : Aabb) (b : BuiltTree) (after : Outputs) (out out' : List ℕ) (w : WalkAnswer)
    (f : WellFormed e th b after)
    (d : Delivered e th query b after (length out) (outcome_of e th query b after (length out)))
    (a : WalkAnswered (outcome_of e th query b after (length out)) out out' w) where
  abbrev o : Outcome
  o = outcome_of e th query b after (length out)

  refusal_is : w.refusal ≡ o.number
  unfolding counted
  refusal_is = ap (λ (x : WalkAnswer). x.refusal) a.answer

  handed_is : w.handed ≡ length o.given
  unfolding counted
  handed_is = ap (λ (x : WalkAnswer). x.handed) a.answer ∙ d.count_is

  reads_are : w.reads ≡ o.counts.reads
  unfolding counted
  reads_are = ap (λ (x : WalkAnswer). x.reads) a.answer

  out_is : handed_out out' w ≡ o.given
  out_is = ap₂ take handed_is a.output_is ∙ take-append_seam o.given (drop (length o.given) out)

  pub at_interface : PointThree e th query (tree_values b) after out out' w
  unfolding tree_values
  at_interface =
      record {
        each_present_item_in_exactly_one_leaf = f.present_once;
        no_other_item_in_a_leaf = f.only_present;
        no_leaf_over_the_threshold = f.at_most;
        each_leaf_in_exactly_one_range = f.in_one_range;
        no_range_over_127_nodes = f.ranges_are;
        refused_exactly_where_the_output_is_short = refusal_is ∙ d.refused_exactly;
        every_item_that_meets = λ ordinary z p m meets. rw out_is (d.every_item_that_meets ordinary (sym refusal_is ∙ z) p m meets);
        no_item_twice = λ p. rw out_is (d.none_twice p);
        only_present_items = λ p. rw out_is (d.only_present p);
        none_from_a_leaf_that_misses = λ i m. d.from_leaves_that_meet i (subst (Memᴰ i) out_is m);
        positions_below_the_item_count = λ i m. d.positions_below i (subst (Memᴰ i) out_is m);
        as_many_as_it_says = ap length out_is ∙ sym handed_is;
        rest_as_it_was = a.output_is ∙ ap (λ (xs : List ℕ). over xs out) (sym out_is);
        reads_at_most_nodes_plus_trees = omega (arith, reads_are, d.reads_at_most);
      }

-- ---- the statement

-- Of any entries: those of words (`words_listed`) and those of a list of items (`items_listed`) are `Listed`.
pub point_three : (e : Entries) → Listed e → (th : ℕ) (l : Lengths) (r : BuildAnswer) (before after : Outputs)
    → Answers e th l r before after → r.refusal ≡ 0
    → (query : Aabb) (out out' : List ℕ) (w : WalkAnswer) → WalkedOver e th query r after out out' w
    → PointThree e th query r after out out' w
unfolding tree_values outcome_of
point_three e listed th l r before after build zero query out out' w walk =
    let t = of_tree e th l r before after (answer_of e th l) refl build zero in
    let b = t.tree in
    let over : WalkedOver e th query (tree_values b) after out out' w =
    subst (λ (x : BuildAnswer). WalkedOver e th query x after out out' w) t.values walk in
    subst (λ (x : BuildAnswer). PointThree e th query x after out out' w) (sym t.values)
    (at_interface e th query b after out out' w
    (records_well_formed e listed th l before after b t.answered)
    (walk_delivers e listed th l before after b t.answered query (length out)) over)

-- for entries in words, and for a list of items
pub point_three_of_words : (n : ℕ) (ws : List ℕ) (th : ℕ) (l : Lengths) (r : BuildAnswer) (before after : Outputs)
    → Answers (entries_in n ws) th l r before after → r.refusal ≡ 0
    → (query : Aabb) (out out' : List ℕ) (w : WalkAnswer) → WalkedOver (entries_in n ws) th query r after out out' w
    → PointThree (entries_in n ws) th query r after out out' w
point_three_of_words n ws = point_three (entries_in n ws) (words_listed n ws)

pub point_three_of_items : (items : List BvhItem) (th : ℕ) (l : Lengths) (r : BuildAnswer) (before after : Outputs)
    → Answers (entries_of items) th l r before after → r.refusal ≡ 0
    → (query : Aabb) (out out' : List ℕ) (w : WalkAnswer) → WalkedOver (entries_of items) th query r after out out' w
    → PointThree (entries_of items) th query r after out out' w
point_three_of_items items = point_three (entries_of items) (items_listed items)
