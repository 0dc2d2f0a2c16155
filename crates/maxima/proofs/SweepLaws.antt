-- With the furthest first, what is hidden is what is displaced: so the unhidden are the list. And what is hidden in two lists, one after
-- the other, is what is hidden in each, and those of the second that one of the first covers.
use mathlib.Core.Path.{◌≡◌, refl, sym, ap, ◌∙◌, subst}
use mathlib.Core.Logic.{◌⊎◌, inl, inr}
use mathlib.Core.Bool.{Bool, true, false, not, ◌&&◌, ◌||◌}
use mathlib.Core.List.{List, [], ◌∷◌, ◌++◌}
use Prim.Native.Nat.{ℕ, ◌≤◌, ◌<◌}
use native.Mathlib.Omega.{arith}
use native.Mathlib.Decide.{dec_lt}
use borrow.Author.Tests.{le-leb, leb-true, eqb-true, eq-eqb, ltb-true, lt-ltb}
use lib.Dec.{leb, ltb, eqb}
use Rattle.shadows.specs.Kept.{some, kept_of}
use Rattle.shadows.specs.Maxima.{displaced, listed, maxima_of}
use Rattle.shadows.proofs.Truth.{never, first_true, second_true, both_true, either_true}
use Rattle.shadows.proofs.Below.{none_at, none_if, some_append}
use Rattle.shadows.proofs.MaximaLaws.{kept_are_maxima}
use Rattle.far_order.specs.Rows.{x_at, y_at, cast_at, hide_at, shadowed_at, Rows}
use Rattle.far_order.specs.Steps.Order.{then_le, far_le}
use Rattle.maxima.specs.Steps.Marking.{member, covers_in, hidden}
use Rattle.far_order.proofs.OrderLaws.{then_says}

or_true : (a : Bool) → (a || true) ≡ true
or_true true = refl
or_true false = refl

-- ---- two lists, one after the other

module _ (cover : ℕ → ℕ → Bool) where
  -- those of the second list that one of the first covers
  pub hidden_append : (l r : List ℕ) (p : ℕ)
      → hidden cover (l ++ r) p ≡ (hidden cover l p || (hidden cover r p || (some (λ q. cover q p) l && member p r)))
  hidden_append [] r p = or_false (hidden cover r p)
    where
      or_false : (a : Bool) → a ≡ (a || false)
      or_false true = refl
      or_false false = refl
  hidden_append (q ∷ l) r p =
      rw (hidden_append l r p, some_append (λ x. eqb x p) l r)
      (go (cover q p) (member p l) (member p r) (hidden cover l p) (hidden cover r p) (some (λ x. cover x p) l))
    where
      go : (a b c d e f : Bool) → ((a && (b || c)) || (d || (e || (f && c)))) ≡ (((a && b) || d) || (e || ((a || f) && c)))
      go true true c d e f = refl
      go true false true true e f = refl
      go true false true false true f = refl
      go true false true false false f = refl
      go true false false d e true = refl
      go true false false d e false = refl
      go false b c d e f = refl

-- ---- one before another

-- p comes before q, by the first number in which they differ
pub data Before (n : ℕ) (rows : List ℕ) (p q : ℕ) : Type 0 where
  by_x : x_at rows p < x_at rows q → Before n rows p q
  by_y : x_at rows p ≡ x_at rows q → y_at n rows p < y_at n rows q → Before n rows p q
  by_hide : x_at rows p ≡ x_at rows q → y_at n rows p ≡ y_at n rows q → hide_at n rows p < hide_at n rows q → Before n rows p q
  by_cast : x_at rows p ≡ x_at rows q → y_at n rows p ≡ y_at n rows q → hide_at n rows p ≡ hide_at n rows q → cast_at n rows p < cast_at n rows q
      → Before n rows p q
  by_number : x_at rows p ≡ x_at rows q → y_at n rows p ≡ y_at n rows q → hide_at n rows p ≡ hide_at n rows q → cast_at n rows p ≡ cast_at n rows q
      → p < q → Before n rows p q

-- each of a list comes before all that follow it
abbrev pub BeforeAll : ℕ → List ℕ → ℕ → List ℕ → Type 0
BeforeAll n rows p [] = Unit {0}
BeforeAll n rows p (q ∷ qs) = Before n rows p q × BeforeAll n rows p qs

abbrev pub FarFirst : ℕ → List ℕ → List ℕ → Type 0
FarFirst n rows [] = Unit {0}
FarFirst n rows (p ∷ ps) = BeforeAll n rows p ps × FarFirst n rows ps

pub at_most_before : (n : ℕ) (rows : List ℕ) (p q : ℕ) → (p ≡ q → ⊥) → far_le n rows p q ≡ true → Before n rows p q
unfolding far_le
at_most_before n rows p q d h = on_x (then_says (x_at rows p) (x_at rows q) _ h)
  where
    on_number : x_at rows p ≡ x_at rows q → y_at n rows p ≡ y_at n rows q → hide_at n rows p ≡ hide_at n rows q → cast_at n rows p ≡ cast_at n rows q
        → leb p q ≡ true → Dec (p < q) → Before n rows p q
    on_number a b c e f (yes l) = by_number a b c e l
    on_number a b c e f (no l) = absurd (d (omega (arith, leb-true p q f)))

    on_cast : x_at rows p ≡ x_at rows q → y_at n rows p ≡ y_at n rows q → hide_at n rows p ≡ hide_at n rows q
        → (cast_at n rows p < cast_at n rows q) ⊎ ((cast_at n rows p ≡ cast_at n rows q) × (leb p q ≡ true)) → Before n rows p q
    on_cast a b c (inl e) = by_cast a b c e
    on_cast a b c (inr e) = on_number a b c e.0 e.1 (dec_lt p q)

    on_hide : x_at rows p ≡ x_at rows q → y_at n rows p ≡ y_at n rows q
        → (hide_at n rows p < hide_at n rows q)
        ⊎ ((hide_at n rows p ≡ hide_at n rows q) × (then_le (cast_at n rows p) (cast_at n rows q) (leb p q) ≡ true)) → Before n rows p q
    on_hide a b (inl e) = by_hide a b e
    on_hide a b (inr e) = on_cast a b e.0 (then_says (cast_at n rows p) (cast_at n rows q) _ e.1)

    on_y : x_at rows p ≡ x_at rows q
        → (y_at n rows p < y_at n rows q) ⊎ ((y_at n rows p ≡ y_at n rows q)
        × (then_le (hide_at n rows p) (hide_at n rows q) (then_le (cast_at n rows p) (cast_at n rows q) (leb p q)) ≡ true)) → Before n rows p q
    on_y a (inl e) = by_y a e
    on_y a (inr e) = on_hide a e.0 (then_says (hide_at n rows p) (hide_at n rows q) _ e.1)

    on_x : (x_at rows p < x_at rows q) ⊎ ((x_at rows p ≡ x_at rows q)
        × (then_le (y_at n rows p) (y_at n rows q) (then_le (hide_at n rows p) (hide_at n rows q) (then_le (cast_at n rows p) (cast_at n rows q) (leb p q)))
        ≡ true)) → Before n rows p q
    on_x (inl e) = by_x e
    on_x (inr e) = on_y e.0 (then_says (y_at n rows p) (y_at n rows q) _ e.1)

module _ (n : ℕ) (rows : List ℕ) (t : Rows n rows) where
  abbrev shadowed : ℕ → ℕ → Bool
  shadowed i j = shadowed_at n rows i j

  abbrev covers : ℕ → ℕ → Bool
  covers q p = covers_in n rows q p

  -- what a shadow says
  record Falls (i j : ℕ) : Type 0 where
    in_x : x_at rows j ≤ x_at rows i
    in_y : y_at n rows j ≤ y_at n rows i
    in_z : cast_at n rows j ≤ hide_at n rows i

  falls : (i j : ℕ) → shadowed i j ≡ true → Falls i j
  unfolding shadowed_at
  falls i j h =
      let x = leb (x_at rows j) (x_at rows i) in
      let y = leb (y_at n rows j) (y_at n rows i) in
      let z = leb (cast_at n rows j) (hide_at n rows i) in
      record {
        in_x = leb-true (x_at rows j) (x_at rows i) (first_true x (y && z) h);
        in_y = leb-true (y_at n rows j) (y_at n rows i) (first_true y z (second_true x (y && z) h));
        in_z = leb-true (cast_at n rows j) (hide_at n rows i) (second_true y z (second_true x (y && z) h));
      }

  shadows : (i j : ℕ) → Falls i j → shadowed i j ≡ true
  unfolding shadowed_at
  shadows i j f =
      rw (
        le-leb (x_at rows j) (x_at rows i) f.in_x,
        le-leb (y_at n rows j) (y_at n rows i) f.in_y,
        le-leb (cast_at n rows j) (hide_at n rows i) f.in_z,
      )

  shadowed_covers : (i j : ℕ) → shadowed i j ≡ true → covers j i ≡ true
  unfolding shadowed_at covers_in
  shadowed_covers i j h = second_true (leb (x_at rows j) (x_at rows i)) (leb (y_at n rows j) (y_at n rows i) && leb (cast_at n rows j) (hide_at n rows i)) h

  covers_shadowed : (i j : ℕ) → x_at rows j ≤ x_at rows i → covers j i ≡ true → shadowed i j ≡ true
  unfolding shadowed_at covers_in
  covers_shadowed i j l h = rw (le-leb (x_at rows j) (x_at rows i) l) h

  -- ---- the list is the maxima: shadowing is transitive, since none is further as one that casts

  pub are_maxima : kept_of (shadowed_at n rows) n ≡ maxima_of (shadowed_at n rows) n
  are_maxima =
      kept_are_maxima (shadowed_at n rows) n
      (λ i j k a b c h h'.
      let f = falls i j h in
      let g = falls j k h' in
      let e = t.ends j b in
      shadows i k (record { in_x = omega (arith, f.in_x, g.in_x); in_y = omega (arith, f.in_y, g.in_y); in_z = omega (arith, f.in_z, g.in_z) }))

  -- ---- before

  asymmetric : {A : Type 0} (p q : ℕ) → Before n rows p q → Before n rows q p → A
  asymmetric p q (by_x a) (by_x b) = absurd (omega arith)
  asymmetric p q (by_x a) (by_y b c) = absurd (omega arith)
  asymmetric p q (by_x a) (by_hide b c d) = absurd (omega arith)
  asymmetric p q (by_x a) (by_cast b c d e) = absurd (omega arith)
  asymmetric p q (by_x a) (by_number b c d e f) = absurd (omega arith)
  asymmetric p q (by_y a b) (by_x c) = absurd (omega arith)
  asymmetric p q (by_y a b) (by_y c d) = absurd (omega arith)
  asymmetric p q (by_y a b) (by_hide c d e) = absurd (omega arith)
  asymmetric p q (by_y a b) (by_cast c d e f) = absurd (omega arith)
  asymmetric p q (by_y a b) (by_number c d e f g) = absurd (omega arith)
  asymmetric p q (by_hide a b c) (by_x d) = absurd (omega arith)
  asymmetric p q (by_hide a b c) (by_y d e) = absurd (omega arith)
  asymmetric p q (by_hide a b c) (by_hide d e f) = absurd (omega arith)
  asymmetric p q (by_hide a b c) (by_cast d e f g) = absurd (omega arith)
  asymmetric p q (by_hide a b c) (by_number d e f g h) = absurd (omega arith)
  asymmetric p q (by_cast a b c d) (by_x e) = absurd (omega arith)
  asymmetric p q (by_cast a b c d) (by_y e f) = absurd (omega arith)
  asymmetric p q (by_cast a b c d) (by_hide e f g) = absurd (omega arith)
  asymmetric p q (by_cast a b c d) (by_cast e f g h) = absurd (omega arith)
  asymmetric p q (by_cast a b c d) (by_number e f g h i) = absurd (omega arith)
  asymmetric p q (by_number a b c d e) (by_x f) = absurd (omega arith)
  asymmetric p q (by_number a b c d e) (by_y f g) = absurd (omega arith)
  asymmetric p q (by_number a b c d e) (by_hide f g h) = absurd (omega arith)
  asymmetric p q (by_number a b c d e) (by_cast f g h i) = absurd (omega arith)
  asymmetric p q (by_number a b c d e) (by_number f g h i j) = absurd (omega arith)

  before_far : (q i : ℕ) → Before n rows q i → x_at rows q ≤ x_at rows i
  before_far q i (by_x a) = omega arith
  before_far q i (by_y a b) = omega arith
  before_far q i (by_hide a b c) = omega arith
  before_far q i (by_cast a b c d) = omega arith
  before_far q i (by_number a b c d e) = omega arith

  -- of two that shadow each other the one that comes before has the lesser number
  before_tie : (q i : ℕ) → q < n → i < n → Before n rows q i → Falls i q → Falls q i → q < i
  before_tie q i l m (by_x a) f g = absurd (omega (arith, g.in_x))
  before_tie q i l m (by_y a b) f g = absurd (omega (arith, g.in_y))
  before_tie q i l m (by_hide a b c) f g = absurd (omega (arith, g.in_z, t.ends i m))
  before_tie q i l m (by_cast a b c d) f g = absurd (omega (arith, g.in_z, t.ends q l))
  before_tie q i l m (by_number a b c d e) f g = e

  -- ---- an earlier one that covers is one that displaces, and every one that displaces comes earlier

  before_displaces : (i q : ℕ) → i < n → q < n → Before n rows q i → covers q i ≡ true → displaced shadowed i q ≡ true
  unfolding displaced
  before_displaces i q l m b c =
      let s = covers_shadowed i q (before_far q i b) c in
      both_true (shadowed i q) (ltb q i || not (shadowed q i)) s (go s (shadowed q i) refl)
    where
      go : shadowed i q ≡ true → (u : Bool) → shadowed q i ≡ u → (ltb q i || not u) ≡ true
      go s true e = rw (lt-ltb q i (before_tie q i m l b (falls i q s) (falls q i e)))
      go s false e = or_true (ltb q i)

  displaces_before : (i j : ℕ) → i < n → j < n → displaced shadowed i j ≡ true → Before n rows j i × (covers j i ≡ true)
  unfolding displaced
  displaces_before i j l m h = (
    go (dec_lt (x_at rows j) (x_at rows i)) (dec_lt (y_at n rows j) (y_at n rows i)) (dec_lt (hide_at n rows j) (hide_at n rows i))
        (dec_lt (cast_at n rows j) (cast_at n rows i)),
    shadowed_covers i j s,
  )
    where
      s : shadowed i j ≡ true
      s = first_true (shadowed i j) (ltb j i || not (shadowed j i)) h

      f : Falls i j
      f = falls i j s

      first : Falls j i → (ltb j i ≡ true) ⊎ (not (shadowed j i) ≡ true) → j < i
      first g (inl k) = ltb-true j i k
      first g (inr k) = never k (ap not (shadows j i g))

      go : Dec (x_at rows j < x_at rows i) → Dec (y_at n rows j < y_at n rows i) → Dec (hide_at n rows j < hide_at n rows i)
          → Dec (cast_at n rows j < cast_at n rows i) → Before n rows j i
      go (yes a) b c d = by_x a
      go (no a) (yes b) c d = by_y (omega (arith, f.in_x)) b
      go (no a) (no b) (yes c) d = by_hide (omega (arith, f.in_x)) (omega (arith, f.in_y)) c
      go (no a) (no b) (no c) (yes d) =
          by_cast (omega (arith, f.in_x)) (omega (arith, f.in_y)) (omega (arith, f.in_z, t.ends j m)) d
      go (no a) (no b) (no c) (no d) =
          let x : x_at rows j ≡ x_at rows i = omega (arith, f.in_x) in
          let y : y_at n rows j ≡ y_at n rows i = omega (arith, f.in_y) in
          let w : hide_at n rows j ≡ hide_at n rows i = omega (arith, f.in_z, t.ends j m) in
          let v : cast_at n rows j ≡ cast_at n rows i = omega (arith, f.in_z, t.ends i l) in
          by_number x y w v
          (first (record { in_x = omega arith; in_y = omega arith; in_z = omega (arith, f.in_z) })
          (either_true (ltb j i) (not (shadowed j i)) (second_true (shadowed i j) (ltb j i || not (shadowed j i)) h)))

  -- ---- along a list

  before_all : (p q : ℕ) (qs : List ℕ) → BeforeAll n rows p qs → member q qs ≡ true → Before n rows p q
  before_all p q [] w m = never m refl
  before_all p q (r ∷ qs) w m = go (either_true (eqb r q) (member q qs) m) (before_all p q qs w.1)
    where
      go : (eqb r q ≡ true) ⊎ (member q qs ≡ true) → (member q qs ≡ true → Before n rows p q) → Before n rows p q
      go (inl e) f = subst (Before n rows p) (eqb-true r q e) w.0
      go (inr e) f = f e

  -- one that comes before i and covers it
  record Hider (i : ℕ) (ps : List ℕ) : Type 0 where
    by : ℕ
    among : member by ps ≡ true
    first : Before n rows by i
    over : covers by i ≡ true

  hidden_by : (i : ℕ) (ps : List ℕ) → FarFirst n rows ps → hidden covers ps i ≡ true → Hider i ps
  hidden_by i [] w h = never h refl
  hidden_by i (q ∷ qs) w h = go (either_true (covers q i && member i qs) (hidden covers qs i) h) (hidden_by i qs w.1)
    where
      go : ((covers q i && member i qs) ≡ true) ⊎ (hidden covers qs i ≡ true) → (hidden covers qs i ≡ true → Hider i qs) → Hider i (q ∷ qs)
      go (inl e) f =
          record {
            by = q;
            among = rw (eq-eqb q q refl);
            first = before_all q i qs w.0 (second_true (covers q i) (member i qs) e);
            over = first_true (covers q i) (member i qs) e;
          }
      go (inr e) f =
          let r = f e in
          record {
            by = r.by;
            among = ap (λ (b : Bool). eqb q r.by || b) r.among ∙ or_true (eqb q r.by);
            first = r.first;
            over = r.over;
          }

  hidden_if : (i j : ℕ) (ps : List ℕ) → FarFirst n rows ps → member i ps ≡ true → member j ps ≡ true → Before n rows j i → covers j i ≡ true
      → hidden covers ps i ≡ true
  hidden_if i j [] w a b f c = a
  hidden_if i j (q ∷ qs) w a b f c =
      go (either_true (eqb q i) (member i qs) a) (either_true (eqb q j) (member j qs) b) (λ x y. hidden_if i j qs w.1 x y f c)
    where
      go : (eqb q i ≡ true) ⊎ (member i qs ≡ true) → (eqb q j ≡ true) ⊎ (member j qs ≡ true)
          → (member i qs ≡ true → member j qs ≡ true → hidden covers qs i ≡ true) → hidden covers (q ∷ qs) i ≡ true
      go (inl x) (inl y) g =
          let e : i ≡ j = sym (eqb-true q i x) ∙ eqb-true q j y in
          let f' : Before n rows i i = subst (λ (k : ℕ). Before n rows k i) (sym e) f in
          asymmetric i i f' f'
      go (inl x) (inr y) g = asymmetric j i f (subst (λ (k : ℕ). Before n rows k j) (eqb-true q i x) (before_all q j qs w.0 y))
      go (inr x) (inl y) g = rw (ap (λ (k : ℕ). covers k i) (eqb-true q j y) ∙ c, x)
      go (inr x) (inr y) g = ap (λ (u : Bool). (covers q i && member i qs) || u) (g x y) ∙ or_true (covers q i && member i qs)

  -- Over all n vertices, the furthest first, what is not hidden is the list.
  pub listed_is_unhidden : (ps : List ℕ) → FarFirst n rows ps → ((k : ℕ) → k < n → member k ps ≡ true)
      → ((k : ℕ) → member k ps ≡ true → k < n) → (i : ℕ) → i < n → listed shadowed n i ≡ not (hidden covers ps i)
  listed_is_unhidden ps w in-it of-it i l = go (hidden covers ps i) refl
    where
      off : (b : Bool) → listed shadowed n i ≡ b → (q : ℕ) → q < n → displaced shadowed i q ≡ true → b ≡ false
      off true e q m d = never d (none_at n (displaced shadowed i) e q m)
      off false e q m d = refl

      on : hidden covers ps i ≡ false → (j : ℕ) → j < n → (b : Bool) → displaced shadowed i j ≡ b → b ≡ false
      on e j m true d = let f = displaces_before i j l m d in never (hidden_if i j ps w (in-it i l) (in-it j m) f.0 f.1) e
      on e j m false d = refl

      go : (b : Bool) → hidden covers ps i ≡ b → listed shadowed n i ≡ not b
      go true e =
          let r = hidden_by i ps w e in
          let m = of-it r.by r.among in
          off (listed shadowed n i) refl r.by m (before_displaces i r.by l m r.first r.over)
      go false e = none_if n (displaced shadowed i) (λ j m. on e j m (displaced shadowed i j) refl)
