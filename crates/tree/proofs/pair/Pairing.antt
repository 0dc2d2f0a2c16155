-- What `pair::build_and_walk` promises, from what the build and the walk do.
use Rattle.std.specs.Prelude.{◌≡◌, ℕ, List, length, Ok, Err}
use native.Mathlib.Omega.{arith}
use mathlib.Core.Path.{refl, ap, subst, ◌∙◌}
use Rattle.math.specs.declared.aabb.Aabb.{Aabb}
use Rattle.bvh.specs.declared.slices.BuildRefusal.{BuildRefusal}
use Rattle.bvh.specs.declared.slices.BuiltTree.{BuiltTree}
use Rattle.bvh.specs.Build.{Build, Entries, refusal_number, number_of}
use Rattle.bvh.specs.Entry.{entries_in, Outputs, Lent, lengths_of, Answered}
use Rattle.walk.specs.Walks.{Walk, Outcome, walk_of, Promise}
use Rattle.tree.specs.Pair.{outcome_of, Delivered, pair_number, Paired}
use Rattle.tree.specs.WellFormed.{count_for}
use Rattle.tree.proofs.AnswerLaws.{refusal_numbered, words_listed}
use Rattle.tree.proofs.PointThree.{records_well_formed, walk_delivers}

module _ (n th : ℕ) (ws : List ℕ) (query : Aabb) (given : Lent) (before after : Outputs) (out out' : List ℕ) (b : BuiltTree) (w : Walk) where
  abbrev e : Entries
  e = entries_in n ws

  -- the walk that was run, as it was given so many items
  abbrev ran : ℕ → Outcome
  ran items =
      walk_of query b.scale.cen b.scale.inverse (record { nodes = b.nodes; trees = b.trees; items = items }) after.nodes after.trees (length out)

  walked : Answered e th (lengths_of before given) (Ok b) before after → Promise (ran (count_for th n b.present)) out out' w
      → Paired e th query given before after out out' (Ok (record { tree = b; walk = w }))
  unfolding entries_in outcome_of
  walked build walk =
      let l = lengths_of before given in
      let listed = words_listed n ws in
      let answer : (v : BuiltTree) → Ok b ≡ Ok v → Answered e th l (Ok v) before after =
      λ v same. subst (λ (x : Build). Answered e th l x before after) same build in
      let delivered : (v : BuiltTree) → Ok b ≡ Ok v → Delivered e th query v after (length out) (outcome_of e th query v after (length out)) =
      λ v same. walk_delivers e listed th l before after v (answer v same) query (length out) in
      record {
        number_is = walk.number_is ∙ (delivered b refl).refused_exactly ∙ ap (pair_number th n (length out)) build.answer;
        build_is = build;
        walk_is = walk;
        well_formed = λ v same. records_well_formed e listed th l before after v (answer v same);
        delivers = delivered;
      }

  pub paired : (r : Build) (items : ℕ) → Answered e th (lengths_of before given) r before after → r ≡ Ok b → items ≡ count_for th n b.present
      → Promise (ran items) out out' w → Paired e th query given before after out out' (Ok (record { tree = b; walk = w }))
  paired r items a built few walk =
      walked (subst (λ (x : Build). Answered e th (lengths_of before given) x before after) built a)
      (subst (λ (k : ℕ). Promise (ran k) out out' w) few walk)

unbuilt : (why : BuildRefusal) (b : BuiltTree) → Err why ≡ Ok b → ⊥
unbuilt why b same = let n : refusal_number why ≡ 0 = ap number_of same in omega (arith, refusal_numbered why)

-- a refused build is not walked
pub unpaired : (e : Entries) (th : ℕ) (query : Aabb) (given : Lent) (before after : Outputs) (out : List ℕ) (r : Build) (why : BuildRefusal)
    → Answered e th (lengths_of before given) r before after → r ≡ Err why → Paired e th query given before after out out (Err why)
unpaired e th query given before after out r why a refused =
    let build = subst (λ (x : Build). Answered e th (lengths_of before given) x before after) refused a in
    record {
      number_is = ap (pair_number th e.number (length out)) build.answer;
      build_is = build;
      walk_is = refl;
      well_formed = λ b same. absurd (unbuilt why b same);
      delivers = λ b same. absurd (unbuilt why b same);
    }
