-- The two entry points are one prepare: kind 8 to `prepare_bvh`, every other to `prepare_geometry`, answers what the definition does, refusal 6 included, and
-- leaves every output as it says, those that are not lent too. Assumes nothing.
use Rattle.std.specs.Prelude.{◌≡◌, ℕ, zero, suc, ◌+◌, ◌*◌, Bool, false, cond, eqb, List, [], ◌++◌, take, drop, Result, Ok, Err}
use native.Mathlib.Omega.{arith}
use mathlib.Core.List.{append_assoc}
use mathlib.Core.Path.{refl, sym, ap, ◌∙◌}
use borrow.Author.Tests.{ne_eqb}
use lib.ListN.{take-append-drop}
use lib.Seq.{drop-drop}
use Rattle.bvh.specs.Entry.{Outputs}
use Rattle.meshes.specs.declared.Lengths.{Lengths}
use Rattle.meshes.specs.declared.PrepareRefusal.{PrepareRefusal}
use Rattle.meshes.specs.declared.PrepareRefusal.TheVariants.{UnknownKind}
use Rattle.meshes.specs.Checks.{is_geometry, is_bvh}
use Rattle.meshes.specs.Meshes.{Mesh}
use Rattle.octants.specs.Octants.{parts}
use Rattle.prepared.specs.declared.Prepared.{Prepared}
use Rattle.prepared.specs.Answers.{Lists, Hull, kept, kept_octants, answer_of, GeometryAnswered, BvhAnswered, Answered}
use Rattle.prepared.specs.Shrunk.{octants_left}
use Rattle.prepared.proofs.Meshes.{no_nodes, no_trees, no_order, no_shrunk, no_floats, no_octants}

-- ---- where nothing is written

kept_none : (r : Result Prepared PrepareRefusal) (before : List ℕ) → before ≡ kept r [] before
kept_none (Ok made) before = refl
kept_none (Err why) before = refl

-- parts in which no list stands are as they were
parts_none : (n m : ℕ) (before : List ℕ) → parts (λ o. []) n m before ++ drop (m * n) before ≡ before
parts_none n zero before = ap (λ (k : ℕ). drop k before) zero_times
  where
    zero_times : 0 * n ≡ 0
    zero_times = omega arith
parts_none n (suc m) before =
    let next : suc m * n ≡ m * n + n = omega arith in
    let rest = drop (m * n) before in
    append_assoc (parts (λ o. []) n m before) (take n rest) (drop (suc m * n) before)
    ∙ ap (λ (l : List ℕ). parts (λ o. []) n m before ++ (take n rest ++ l)) (ap (λ (k : ℕ). drop k before) next ∙ sym (drop-drop n (m * n) before))
    ∙ ap (λ (l : List ℕ). parts (λ o. []) n m before ++ l) (take-append-drop n rest)
    ∙ parts_none n m before

octants_none : (r : Result Prepared PrepareRefusal) (v : ℕ) (before : List ℕ) → before ≡ kept_octants r (λ o. []) v before
unfolding octants_left
octants_none (Ok made) v before = sym (parts_none v 8 before)
octants_none (Err why) v before = refl

-- ---- the answer is the definition's

not_its_own : (t : Bool) (r : Result Prepared PrepareRefusal) → t ≡ false → cond t (Err UnknownKind) r ≡ r
not_its_own t r e = rw e

module _ (g : Mesh) (l : Lengths) (r : Result Prepared PrepareRefusal) (b b' : Lists) where
  pub geometry_whole : (h h' : Hull) (t : Outputs) → (g.bound.kind ≡ 8 → ⊥) → GeometryAnswered g l r b b' h h' → Answered g l r b b' h h' t t
  geometry_whole h h' t other a =
      record {
        answer = a.answer ∙ not_its_own (is_bvh g.bound.kind) (answer_of g l) (ne_eqb g.bound.kind 8 other);
        lists_are = a.lists_are;
        hull_is = a.hull_is;
        tree_is =
            record {
              nodes_are = kept_none r t.nodes ∙ ap (λ (xs : List ℕ). kept r xs t.nodes) (sym (no_nodes g other));
              trees_are = kept_none r t.trees ∙ ap (λ (xs : List ℕ). kept r xs t.trees) (sym (no_trees g other));
              order_is = kept_none r t.order ∙ ap (λ (xs : List ℕ). kept r xs t.order) (sym (no_order g other));
            };
      }

  pub bvh_whole : (h : Hull) (t t' : Outputs) → g.bound.kind ≡ 8 → BvhAnswered g l r b b' t t' → Answered g l r b b' h h t t'
  bvh_whole h t t' eight a =
      record {
        answer = a.answer ∙ not_its_own (is_geometry g.bound.kind) (answer_of g l) (ap (λ (k : ℕ). eqb k 4) eight);
        lists_are = a.lists_are;
        hull_is =
            record {
              shrunk_are = kept_none r h.shrunk ∙ ap (λ (xs : List ℕ). kept r xs h.shrunk) (sym (no_shrunk g eight));
              floats_are = kept_none r h.floats ∙ ap (λ (xs : List ℕ). kept r xs h.floats) (sym (no_floats g eight));
              octants_are =
                  octants_none r g.counts.vertices h.octants
                  ∙ ap (λ (list : ℕ → List ℕ). kept_octants r list g.counts.vertices h.octants) (sym (no_octants g eight));
            };
        tree_is = a.tree_is;
      }
