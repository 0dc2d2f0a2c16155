-- Laws of the tree that a lawful builder grows: how `grow` unfolds whatever the fuel, what its leaves hold, and that its table is a flat tree.
-- By induction over the tree that grows.
use Prim.Native.Nat.{ℕ, zero, suc, ◌+◌, ◌*◌, ◌≤◌, ◌<◌}
use native.Mathlib.Omega.{arith}
use mathlib.Core.Bool.{Bool, true, false}
use mathlib.Core.List.{List, [], ◌∷◌}
use mathlib.Core.Path.{◌≡◌, refl, sym, ap₂, ◌∙◌}
use lib.Dec.{leb}
use lib.ListN.{length, length-append}
use borrow.Author.Tests.{leb-true, leb-false, le-leb, lt-leb}
use Rattle.base.proofs.ListLaws.{occurs_append}
use Rattle.base.proofs.WithinLaws.{within_append}
use Rattle.base.specs.Lists.{Within, Permutes}
use Rattle.rows.specs.Steps.Flat.{Full, Filled, Flat, Scannable}
use Rattle.rows.specs.Tree.{Node, leaf, inner, leaf_order, size}
use Rattle.rows.proofs.FlatLaws.{full_filled}
use Rattle.rows.proofs.RangeLaws.{ranges_few}
use Rattle.rows.proofs.TreeLaws.{AtMost, full_most}
use Rattle.growth.specs.Grow.{Builder, grow_f, grow}
use Rattle.growth.specs.Steps.Laid.{Grown}
use Rattle.growth.proofs.Lawful.{Lawful}

module _ (b : Builder) where
  grow_f_leaf : (th k : ℕ) (ps : List ℕ) → length ps ≤ th → grow_f b th k ps ≡ leaf (b.box ps) ps
  unfolding grow_f
  grow_f_leaf th zero ps h = refl
  grow_f_leaf th (suc k) ps h = rw (le-leb (length ps) th h, grow_f)

  grow_f_inner : (th k : ℕ) (ps : List ℕ) → th < length ps → grow_f b th (suc k) ps ≡ inner (b.box ps) (grow_f b th k (b.first ps)) (grow_f b th k (b.second ps))
  unfolding grow_f
  grow_f_inner th k ps h = rw (lt-leb (length ps) th h, grow_f)

  -- at most th items are a leaf
  pub grow_leaf : (th : ℕ) (ps : List ℕ) → length ps ≤ th → grow b th ps ≡ leaf (b.box ps) ps
  unfolding grow
  grow_leaf th ps h = grow_f_leaf th (length ps) ps h

module _ (b : Builder) (law : Lawful b) where
  fuel_by : (th k j : ℕ) (ps : List ℕ) (t : Bool) → leb (length ps) th ≡ t → 0 < th → length ps ≤ suc k → length ps ≤ suc j
      → ((qs : List ℕ) → length qs ≤ k → length qs ≤ j → grow_f b th k qs ≡ grow_f b th j qs)
      → grow_f b th (suc k) ps ≡ grow_f b th (suc j) ps
  fuel_by th k j ps true e p hk hj same = grow_f_leaf b th (suc k) ps (leb-true _ _ e) ∙ sym (grow_f_leaf b th (suc j) ps (leb-true _ _ e))
  fuel_by th k j ps false e p hk hj same =
      let big : th < length ps = leb-false _ _ e in
      let t = law.total ps in
      let s₁ = law.some_first ps (omega arith) in
      let s₂ = law.some_second ps (omega arith) in
      grow_f_inner b th k ps big
      ∙ ap₂ (inner (b.box ps)) (same (b.first ps) (omega arith) (omega arith)) (same (b.second ps) (omega arith) (omega arith))
      ∙ sym (grow_f_inner b th j ps big)

  -- as many levels as items are enough
  pub fuel : (th k j : ℕ) (ps : List ℕ) → 0 < th → length ps ≤ k → length ps ≤ j → grow_f b th k ps ≡ grow_f b th j ps
  fuel th zero zero ps p hk hj = refl
  fuel th zero (suc j) ps p hk hj = grow_f_leaf b th zero ps (omega arith) ∙ sym (grow_f_leaf b th (suc j) ps (omega arith))
  fuel th (suc k) zero ps p hk hj = grow_f_leaf b th (suc k) ps (omega arith) ∙ sym (grow_f_leaf b th zero ps (omega arith))
  fuel th (suc k) (suc j) ps p hk hj = fuel_by th k j ps _ refl p hk hj (λ qs hk' hj'. fuel th k j qs p hk' hj')

  inner_by : (th n : ℕ) (ps : List ℕ) → length ps ≡ n → 0 < th → th < n
      → grow_f b th n ps ≡ inner (b.box ps) (grow b th (b.first ps)) (grow b th (b.second ps))
  unfolding grow
  inner_by th zero ps e p h = absurd (omega arith)
  inner_by th (suc n) ps e p h =
      let t = law.total ps in
      let s₁ = law.some_first ps (omega arith) in
      let s₂ = law.some_second ps (omega arith) in
      grow_f_inner b th n ps (omega arith)
      ∙ ap₂ (inner (b.box ps)) (fuel th n (length (b.first ps)) (b.first ps) p (omega arith) (omega arith))
      (fuel th n (length (b.second ps)) (b.second ps) p (omega arith) (omega arith))

  -- more are an inner node over their groups' trees
  pub grow_inner : (th : ℕ) (ps : List ℕ) → 0 < th → th < length ps → grow b th ps ≡ inner (b.box ps) (grow b th (b.first ps)) (grow b th (b.second ps))
  unfolding grow
  grow_inner th ps p h = inner_by th (length ps) ps refl p h

-- what holds of each leaf, and of each inner node over trees of which it holds, holds of the tree that grows
module _ (b : Builder) (law : Lawful b) (th : ℕ) (pos : 0 < th) (P : List ℕ → Node → Type 0)
    (on-leaf : (ps : List ℕ) → length ps ≤ th → P ps (leaf (b.box ps) ps))
    (on_inner : (ps : List ℕ) (l r : Node) → th < length ps → P (b.first ps) l → P (b.second ps) r → P ps (inner (b.box ps) l r)) where
  induction_by : (k : ℕ) (ps : List ℕ) (t : Bool) → leb (length ps) th ≡ t → length ps ≤ suc k
      → ((qs : List ℕ) → length qs ≤ k → P qs (grow_f b th k qs)) → P ps (grow_f b th (suc k) ps)
  induction_by k ps true e h below = rw (grow_f_leaf b th (suc k) ps (leb-true _ _ e)) (on-leaf ps (leb-true _ _ e))
  induction_by k ps false e h below =
      let big : th < length ps = leb-false _ _ e in
      let t = law.total ps in
      let s₁ = law.some_first ps (omega arith) in
      let s₂ = law.some_second ps (omega arith) in
      rw (grow_f_inner b th k ps big)
      (on_inner ps (grow_f b th k (b.first ps)) (grow_f b th k (b.second ps)) big (below (b.first ps) (omega arith))
      (below (b.second ps) (omega arith)))

  induction_f : (k : ℕ) (ps : List ℕ) → length ps ≤ k → P ps (grow_f b th k ps)
  induction_f zero ps h = rw (grow_f_leaf b th zero ps (omega arith)) (on-leaf ps (omega arith))
  induction_f (suc k) ps h = induction_by k ps _ refl h (λ qs h'. induction_f k qs h')

  pub grow_induction : (ps : List ℕ) → P ps (grow b th ps)
  unfolding grow
  grow_induction ps = induction_f (length ps) ps (omega arith)

-- ---- what the leaves hold

module _ (b : Builder) (law : Lawful b) (th : ℕ) (pos : 0 < th) where
  -- the leaf order is the items in another order
  pub leaf_order_permutes : (ps : List ℕ) → Permutes (leaf_order (grow b th ps)) ps
  leaf_order_permutes = grow_induction b law th pos (λ ps t. Permutes (leaf_order t) ps)
      (λ ps h p. refl)
      (λ ps l r h el er p. occurs_append p (leaf_order l) (leaf_order r) ∙ ap₂ ◌+◌ (el p) (er p)
      ∙ sym (occurs_append p (b.first ps) (b.second ps)) ∙ law.permutes ps p)

  pub leaf_order_length : (ps : List ℕ) → length (leaf_order (grow b th ps)) ≡ length ps
  leaf_order_length = grow_induction b law th pos (λ ps t. length (leaf_order t) ≡ length ps)
      (λ ps h. refl)
      (λ ps l r h el er. length-append (leaf_order l) (leaf_order r) ∙ ap₂ ◌+◌ el er ∙ law.total ps)

  pub leaf_order_within : (words : ℕ) (ps : List ℕ) → Within words ps → Within words (leaf_order (grow b th ps))
  leaf_order_within words = grow_induction b law th pos (λ ps t. Within words ps → Within words (leaf_order t))
      (λ ps h w. w)
      (λ ps l r h wl wr w. within_append words (leaf_order l) (leaf_order r) (wl (law.within_first words ps w)) (wr (law.within_second words ps w)))

  -- a leaf has at most th items
  pub grow_at_most : (ps : List ℕ) → AtMost th (grow b th ps)
  grow_at_most = grow_induction b law th pos (λ ps t. AtMost th t) (λ ps h. h) (λ ps l r h al ar. (al, ar))

  -- and at least one
  pub grow_full : (ps : List ℕ) → 0 < length ps → Full (grow b th ps)
  grow_full = grow_induction b law th pos (λ ps t. 0 < length ps → Full t)
      (λ ps h some. some)
      (λ ps l r h fl fr some. (fl (law.some_first ps (omega arith)), fr (law.some_second ps (omega arith))))

  pub size_most : (ps : List ℕ) → 0 < length ps → size (grow b th ps) < 2 * length ps
  size_most ps some = omega (arith, full_most (grow b th ps) (grow_full ps some), leaf_order_length ps)

-- ---- the builder's table

-- A tree of no items is one leaf; of any other tree it is enough that each leaf has an item.
pub grow_filled : (b : Builder) (th : ℕ) (ps : List ℕ) → (0 < length ps → Full (grow b th ps)) → Filled (grow b th ps)
unfolding grow_f grow
grow_filled b th [] h = tt
grow_filled b th (p ∷ ps) h = full_filled (grow b th (p ∷ ps)) (h (omega arith))

module _ (b : Builder) (th : ℕ) (ps places table : List ℕ) (r : ℕ)
    (g : Grown b th ps places table r) (filled : Filled (grow b th ps)) (few : r ≤ 32767) where
  pub grown_flat : Flat (grow b th ps) r table
  grown_flat = record { number_is = g.size_is; rows_are = g.rows_are; filled = filled; few = omega (arith, g.size_is) }

  -- As many records as nodes are room enough.
  pub grown_scannable : (limit : ℕ) → 0 < limit → (trees : List ℕ) → 16 * r ≤ length trees → Scannable limit r table trees
  grown_scannable limit some trees h =
      record { limit_some = some; tree = grow b th ps; flat = grown_flat; room = omega (arith, ranges_few limit some 0 (grow b th ps), g.size_is) }
