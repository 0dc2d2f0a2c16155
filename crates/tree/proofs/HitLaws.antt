-- Every node that holds an item is hit, where the fold of any places among which the item is, is hit: a node's box is the fold of the places below it.
-- By induction over how a tree grows.
use Rattle.std.specs.Prelude.{◌≡◌, ℕ, ◌+◌, ◌<◌, Bool, true, List, ◌++◌}
use native.Mathlib.Omega.{arith}
use mathlib.Core.Path.{refl, sym, ap₂, ◌∙◌}
use Rattle.base.proofs.ListLaws.{occurs_append}
use Rattle.base.specs.Lists.{occurrences, Permutes}
use Rattle.entries.specs.Folding.{fold_box}
use Rattle.entries.specs.declared.boxes.BoxWords.{BoxWords}
use Rattle.rows.specs.Tree.{Node, inner, leaf_order}
use Rattle.growth.specs.Grow.{Builder, builder, grow}
use Rattle.growth.proofs.Lawful.{Lawful, lawful}
use Rattle.growth.proofs.GrowLaws.{grow_induction}
use Rattle.tree.specs.Visit.{Hits}

-- each place of the list is good
abbrev pub Each : (ℕ → Type 0) → List ℕ → Type 0
Each Good ps = (x : ℕ) → 0 < occurrences x ps → Good x

-- what is shown of each tree: its leaves hold the places, and an item's nodes are hit
pub record Grows (hit : BoxWords → Bool) (p : ℕ) (ps : List ℕ) (t : Node) : Type 0 where
  pub same : Permutes (leaf_order t) ps
  pub hits : Hits hit p t

module _ (at : ℕ → BoxWords) (th : ℕ) (some : 0 < th) (hit : BoxWords → Bool) (p : ℕ) (Good : ℕ → Type 0)
    (fold-hits : (ps : List ℕ) → Each Good ps → 0 < occurrences p ps → hit (fold_box at ps) ≡ true) where
  abbrev b : Builder
  b = builder at

  abbrev law : Lawful b
  law = lawful at

  halves : (ps : List ℕ) (x : ℕ) → occurrences x (b.first ps) + occurrences x (b.second ps) ≡ occurrences x ps
  halves ps x = sym (occurs_append x (b.first ps) (b.second ps)) ∙ law.permutes ps x

  on_inner : (ps : List ℕ) (l r : Node) → (Each Good (b.first ps) → Grows hit p (b.first ps) l) → (Each Good (b.second ps) → Grows hit p (b.second ps) r)
      → Each Good ps → Grows hit p ps (inner (b.box ps) l r)
  on_inner ps l r gl gr good =
      let fl = gl (λ x h. good x (omega (arith, halves ps x))) in
      let fr = gr (λ x h. good x (omega (arith, halves ps x))) in
      let same : Permutes (leaf_order l ++ leaf_order r) ps =
      λ x. occurs_append x (leaf_order l) (leaf_order r) ∙ ap₂ ◌+◌ (fl.same x) (fr.same x) ∙ halves ps x in
      record { same = same; hits = (λ h. fold-hits ps good (omega (arith, same p)), fl.hits, fr.hits) }

  grows : (ps : List ℕ) → Each Good ps → Grows hit p ps (grow b th ps)
  grows =
      grow_induction b law th some (λ ps t. Each Good ps → Grows hit p ps t)
      (λ ps most good. record { same = λ x. refl; hits = fold-hits ps good })
      (λ ps l r big gl gr good. on_inner ps l r gl gr good)

  pub grown_hits : (ps : List ℕ) → Each Good ps → Hits hit p (grow b th ps)
  grown_hits ps good = (grows ps good).hits
