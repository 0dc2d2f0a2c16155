-- Two neighbours L < H with L² ≤ n / d < H², and the one of them, R, that their mean tells to be the nearer to √(n / d): no other number outside the
-- two is nearer than R, and one that is as near makes the mean the root.
-- By monotone squares, on plain numbers.
use mathlib.Core.Path.{◌≡◌, refl, sym, ◌∙◌, subst}
use mathlib.Core.Logic.{◌⊎◌, inl, inr}
use mathlib.Core.Bool.{not}
use Prim.Native.Nat.{ℕ, zero, suc, ◌+◌, ◌*◌, ◌%◌, ◌≤◌, ◌<◌, compare, Ordering}
use native.Mathlib.Nat.{le_trans, le_of_eq, le_of_lt, lt_of_le_of_lt, lt_of_lt_of_le, lt_irrefl, lt_of_not-le, not-le_of_lt}
use native.Mathlib.Nat.{le_of_suc-le-suc, le_antisymm, mul-le-mul, mul-le-mul_left, mul-le-mul_right, mul-lt-mul_of_pos_left, mul-lt-mul_of_pos_right}
use native.Mathlib.Omega.{arith}
use lib.Dec.{T, is_le, compare_is_eq, leb→le, nleb→lt, eqb→eq, eqb, eqb_refl}
use lib.Ieee.{nearest}

-- ---- `nearest`, by what it compares
pub record Choice (a b q Q : ℕ) : Type 0 where
  pub pick : ((Q ≡ q) × (a ≤ b)) ⊎ ((Q ≡ q + 1) × (b ≤ a))
  pub even : a ≡ b → Q % 2 ≡ 0

pub choice : (a b q : ℕ) → Choice a b q (nearest q (compare a b))
choice a b q = go (compare a b) (leb→le a b) (nleb→lt a b) (eqb→eq a b) (λ (e : a ≡ b). subst (λ (z : ℕ). T (eqb a z)) e (eqb_refl a))
  where
    tie : (r : ℕ) → q % 2 ≡ r → a ≡ b → ((q + q % 2 ≡ q) × (a ≤ b)) ⊎ ((q + q % 2 ≡ q + 1) × (b ≤ a))
    tie zero h e = inl (omega arith)
    tie (suc r) h e = inr (omega arith)

    go : (o : Ordering) → (T (is_le o) → a ≤ b) → (T (not (is_le o)) → b < a) → (T (compare_is_eq o) → a ≡ b) → (a ≡ b → T (compare_is_eq o)) → Choice a b q (nearest q o)
    go Ordering.lt le gt eq is = record { pick = inl (refl, le tt); even = λ (e : a ≡ b). absurd (is e) }
    go Ordering.eq le gt eq is = record { pick = tie (q % 2) refl (eq tt); even = λ (e : a ≡ b). omega arith }
    go Ordering.gt le gt eq is = record { pick = inr (omega arith, le_of_lt (gt tt)); even = λ (e : a ≡ b). absurd (is e) }

-- ---- squares
square_le : (a b d : ℕ) → a ≤ b → a * a * d ≤ b * b * d
square_le a b d h = mul-le-mul_right d (mul-le-mul h h)

square_lt : (a b d : ℕ) → 0 < d → a < b → a * a * d < b * b * d
square_lt a b d D h = mul-lt-mul_of_pos_right {m = a * a} {n = b * b} (omega (arith, mul-le-mul h h)) D

square_inj : (a b d : ℕ) → 0 < d → a * a * d ≡ b * b * d → a ≡ b
square_inj a b d D e = le_antisymm (not_above a b (le_of_eq e)) (not_above b a (le_of_eq (sym e)))
  where
    not_above : (a b : ℕ) → a * a * d ≤ b * b * d → a ≤ b
    not_above a b h = le_of_suc-le-suc (lt_of_not-le (λ (g : suc b ≤ a). not-le_of_lt (square_lt b a d D g) h))

twice_square : (a d : ℕ) → (a + a) * (a + a) * d ≡ 4 * (a * a * d)
twice_square a d = omega arith

pub record Between (n d L H R : ℕ) : Type 0 where
  pub some : 0 < d
  pub low : L * L * d ≤ n
  pub high : n < H * H * d
  pub pick : ((R ≡ L) × (4 * n ≤ (L + H) * (L + H) * d)) ⊎ ((R ≡ H) × ((L + H) * (L + H) * d ≤ 4 * n))

-- A number that lies not between the two.
abbrev pub Outside : ℕ → ℕ → ℕ → Type 0
Outside L H Y = (Y ≤ L) ⊎ (H ≤ Y)

module _ (n d L H R Y : ℕ) (b : Between n d L H R) (o : Outside L H Y) where
  pub below : Y < R → (R + Y) * (R + Y) * d ≤ 4 * n
  below h = elim b.pick [
    | inl p ↦ le_trans (square_le (R + Y) (L + L) d (omega arith)) (le_trans (le_of_eq (twice_square L d)) (mul-le-mul_left 4 b.low))
    | inr p ↦ le_trans (square_le (R + Y) (L + H) d (elim o [ inl y ↦ omega arith | inr y ↦ omega arith ])) p.1
  ]

  pub above : R < Y → 4 * n ≤ (R + Y) * (R + Y) * d
  above h = elim b.pick [
    | inl p ↦ le_trans p.1 (square_le (L + H) (R + Y) d (elim o [ inl y ↦ omega arith | inr y ↦ omega arith ]))
    | inr p ↦ le_trans (mul-le-mul_left 4 (le_of_lt b.high)) (le_trans (le_of_eq (sym (twice_square H d))) (square_le (H + H) (R + Y) d (omega arith)))
  ]

  -- On R's own side of the root no other number is as near.
  pub tie : (Y ≡ R → ⊥) → (R + Y) * (R + Y) * d ≡ 4 * n → (L + H) * (L + H) * d ≡ 4 * n
  tie other e = go b.pick o
    where
      go : ((R ≡ L) × (4 * n ≤ (L + H) * (L + H) * d)) ⊎ ((R ≡ H) × ((L + H) * (L + H) * d ≤ 4 * n)) → Outside L H Y → (L + H) * (L + H) * d ≡ 4 * n
      go (inl p) (inl y) =
          absurd (lt_irrefl (4 * n)
          (lt_of_lt_of_le (lt_of_le_of_lt (le_of_eq (sym e)) (square_lt (R + Y) (L + L) d b.some (omega arith)))
          (le_trans (le_of_eq (twice_square L d)) (mul-le-mul_left 4 b.low))))
      go (inl p) (inr y) = le_antisymm (le_trans (square_le (L + H) (R + Y) d (omega arith)) (le_of_eq e)) p.1
      go (inr p) (inl y) = le_antisymm p.1 (le_trans (le_of_eq (sym e)) (square_le (R + Y) (L + H) d (omega arith)))
      go (inr p) (inr y) =
          absurd (lt_irrefl (4 * n)
          (lt_of_lt_of_le (mul-lt-mul_of_pos_left {k = 4} b.high (omega arith))
          (le_trans (le_of_eq (sym (twice_square H d))) (le_trans (square_le (H + H) (R + Y) d (omega arith)) (le_of_eq e)))))

  -- The number that is as near is the other neighbour.
  pub other_side : (Y ≡ R → ⊥) → (R + Y) * (R + Y) * d ≡ 4 * n → ((R ≡ L) × (Y ≡ H)) ⊎ ((R ≡ H) × (Y ≡ L))
  other_side other e = go b.pick
    where
      -- R + Y and L + H have one square
      same : R + Y ≡ L + H
      same = square_inj (R + Y) (L + H) d b.some (e ∙ sym (tie other e))

      go : ((R ≡ L) × (4 * n ≤ (L + H) * (L + H) * d)) ⊎ ((R ≡ H) × ((L + H) * (L + H) * d ≤ 4 * n)) → ((R ≡ L) × (Y ≡ H)) ⊎ ((R ≡ H) × (Y ≡ L))
      go (inl p) = inl (p.0, omega (arith, same))
      go (inr p) = inr (p.0, omega (arith, same))
