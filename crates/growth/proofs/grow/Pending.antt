-- The builder's steps on lists: the lengths ks of the segments that wait, the places r that they hold, and what is laid before them. What is
-- laid, followed by what the waiting segments give, is the whole tree.
use Prim.Native.Nat.{ℕ, suc, ◌+◌, ◌-◌, ◌*◌, ◌≤◌, ◌<◌}
use native.Mathlib.Omega.{arith}
use mathlib.Core.List.{List, [], ◌∷◌, ◌++◌, append_assoc, append-nil}
use mathlib.Core.Path.{◌≡◌, sym, ap, ◌∙◌}
use lib.ListN.{length, take, drop, length-append, length-drop}
use lib.Seq.{length-take-le, take_at, drop_at, take-length}
use Rattle.rows.specs.Rows.{Row}
use Rattle.rows.specs.Steps.Sizes.{bare_rows}
use Rattle.rows.specs.Tree.{Node, leaf, inner, leaf_order}
use Rattle.growth.specs.Grow.{Builder, grow}
use Rattle.growth.proofs.Lawful.{Lawful}
use Rattle.growth.proofs.GrowLaws.{grow_leaf, grow_inner, leaf_order_length}

-- the waiting segments' leaf orders, and their rows
abbrev pub orders_of : Builder → ℕ → List ℕ → List ℕ → List ℕ
orders_of b th [] r = []
orders_of b th (k ∷ ks) r = leaf_order (grow b th (take k r)) ++ orders_of b th ks (drop k r)

abbrev pub rows_of : Builder → ℕ → ℕ → List ℕ → List ℕ → List Row
rows_of b th lo [] r = []
rows_of b th lo (k ∷ ks) r = bare_rows lo (grow b th (take k r)) ++ rows_of b th (lo + k) ks (drop k r)

abbrev pub sum : List ℕ → ℕ
sum [] = 0
sum (k ∷ ks) = k + sum ks

-- no segment is empty
abbrev pub Some : List ℕ → Type 0
Some [] = Unit {0}
Some (k ∷ ks) = (0 < k) × Some ks

pub some_most : (ks : List ℕ) → Some ks → length ks ≤ sum ks
some_most [] s = omega arith
some_most (k ∷ ks) s = omega (arith, some_most ks s.1)

pub record Pending (b : Builder) (th : ℕ) (t : Node) (n : ℕ) (ks r order : List ℕ) (laid : List Row) (lo m : ℕ) : Type 0 where
  pub order_is : order ++ orders_of b th ks r ≡ leaf_order t
  pub rows_are : laid ++ rows_of b th lo ks r ≡ bare_rows 0 t
  pub span : sum ks ≡ length r
  pub some : Some ks
  pub whole : lo + length r ≡ n
  pub room : m + 2 * sum ks + 1 ≤ 2 * n + length ks

module _ (b : Builder) (law : Lawful b) (th : ℕ) (pos : 0 < th) where
  pub begin : (ps : List ℕ) → 0 < length ps → Pending b th (grow b th ps) (length ps) (length ps ∷ []) ps [] [] 0 0
  begin ps h =
      let e : take (length ps) ps ≡ ps = take-length ps in
      record {
        order_is = rw (e, append-nil);
        rows_are = rw (e, append-nil);
        span = omega arith;
        some = (h, tt);
        whole = omega arith;
        room = omega arith;
      }

  module _ (t : Node) (n k : ℕ) (ks r order : List ℕ) (laid : List Row) (lo m : ℕ) (p : Pending b th t n (k ∷ ks) r order laid lo m) where
    pub leaf_step : k ≤ th
        → Pending b th t n ks (drop k r) (order ++ take k r)
        (laid ++ (record { box = b.box (take k r); head = lo; count = length (take k r) } ∷ [])) (lo + k) (suc m)
    leaf_step h =
        let sp : k + sum ks ≡ length r = p.span in
        let l : length (take k r) ≡ k = length-take-le k r (omega arith) in
        let d : length (drop k r) ≡ length r - k = length-drop k r in
        let e : grow b th (take k r) ≡ leaf (b.box (take k r)) (take k r) = grow_leaf b th (take k r) (omega arith) in
        record {
          order_is = append_assoc order (take k r) (orders_of b th ks (drop k r)) ∙ (rw e at p.order_is);
          rows_are =
              append_assoc laid (record { box = b.box (take k r); head = lo; count = length (take k r) } ∷ []) (rows_of b th (lo + k) ks (drop k r))
              ∙ (rw e at p.rows_are);
          span = omega arith;
          some = p.some.1;
          whole = omega (arith, p.whole);
          room = omega (arith, p.some.0, p.room);
        }

    pub inner_step : (a : ℕ) (r' : List ℕ) → th < k → a ≡ length (b.first (take k r))
        → r' ≡ (b.first (take k r) ++ b.second (take k r)) ++ drop k r
        → Pending b th t n (a ∷ ((k - a) ∷ ks)) r' order (laid ++ (record { box = b.box (take k r); head = 0; count = 0 } ∷ [])) lo (suc m)
    inner_step a r' h ea er =
        let sp : k + sum ks ≡ length r = p.span in
        let ps : List ℕ = take k r in
        let u : List ℕ = drop k r in
        let f : List ℕ = b.first ps in
        let g : List ℕ = b.second ps in
        let l : length ps ≡ k = length-take-le k r (omega arith) in
        let lu : length u ≡ length r - k = length-drop k r in
        let fg : length f + length g ≡ length ps = law.total ps in
        let f₀ : 0 < length f = law.some_first ps (omega arith) in
        let g₀ : 0 < length g = law.some_second ps (omega arith) in
        let lg : length g ≡ k - a = omega arith in
        let q : r' ≡ f ++ (g ++ u) = er ∙ append_assoc f g u in
        let t₁ : take a r' ≡ f = rw q (take_at f (g ++ u) a (sym ea)) in
        let d₁ : drop a r' ≡ g ++ u = rw q (drop_at f (g ++ u) a (sym ea)) in
        let t₂ : take (k - a) (g ++ u) ≡ g = take_at g u (k - a) lg in
        let d₂ : drop (k - a) (g ++ u) ≡ u = drop_at g u (k - a) lg in
        let e : grow b th ps ≡ inner (b.box ps) (grow b th f) (grow b th g) = grow_inner b law th ps pos (omega arith) in
        let li : length (leaf_order (grow b th f)) ≡ a = leaf_order_length b law th pos f ∙ sym ea in
        let lk : (lo + a) + (k - a) ≡ lo + k = omega arith in
        let lr : length r' ≡ length r = ap length q ∙ rw (length-append f (g ++ u), length-append g u) (omega arith) in
        record {
          order_is = rw (t₁, d₁, t₂, d₂, ← append_assoc (leaf_order (grow b th f)) (leaf_order (grow b th g)) (orders_of b th ks u)) (rw e at p.order_is);
          rows_are =
              append_assoc laid (record { box = b.box ps; head = 0; count = 0 } ∷ []) _
              ∙ rw (t₁, d₁, t₂, d₂, lk, ← append_assoc (bare_rows lo (grow b th f)) (bare_rows (lo + a) (grow b th g)) (rows_of b th (lo + k) ks u))
              (rw (e, li) at p.rows_are);
          span = omega arith;
          some = (omega arith, (omega arith, p.some.1));
          whole = omega (arith, p.whole);
          room = omega (arith, p.room);
        }
