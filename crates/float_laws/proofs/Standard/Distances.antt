-- Two neighbours l ≤ n < h, and the one of them, r, that their mean tells to be the nearer to n: no number outside the two is nearer than
-- r, and one that is as near is the other neighbour, with n in the middle.
-- First on whole numbers, by linear arithmetic; then distances of fractions, as those of whole numbers.
use mathlib.Core.Path.{◌≡◌, refl, sym, ap, ◌∙◌}
use mathlib.Core.Logic.{◌⊎◌, inl, inr}
use mathlib.Core.Bool.{Bool, true, false}
use Prim.Native.Nat.{ℕ, ◌+◌, ◌-◌, ◌*◌, ◌≤◌, ◌<◌, zero-le}
use native.Mathlib.Nat.{le_antisymm, le_of_eq, le_of_mul-le-mul_right, mul_comm, mul-sub, add-mul, mul-le-mul_right, eq-zero-or-pos}
use native.Mathlib.Omega.{arith}
use lib.Ieee.Order.{transfer}
use Rattle.float32.specs.Signed.{apart}
use Rattle.float_laws.specs.RoundStandard.{spread}
use Rattle.float_laws.proofs.root.Neighbours.{Outside}

-- ---- the size of a - b
pub apart_above : (a b : ℕ) → b ≤ a → a - b ≡ apart a b
apart_above a b h = omega arith

pub apart_below : (a b : ℕ) → a ≤ b → b - a ≡ apart a b
apart_below a b h = omega arith

pub apart_mul : (a b k : ℕ) → apart a b * k ≡ apart (a * k) (b * k)
apart_mul a b k = rw (add-mul (a - b) (b - a) k, mul_comm (a - b) k, mul-sub k a b, mul_comm (b - a) k, mul-sub k b a, mul_comm k a, mul_comm k b)

-- Where a and b are p and q units of c / l, the size of their difference is that of p and q.
pub apart_whole : (a b l c p q : ℕ) → a * l ≡ p * c → b * l ≡ q * c → apart a b * l ≡ apart p q * c
apart_whole a b l c p q h k = apart_mul a b l ∙ rw (h, k) (sym (apart_mul p q c))

-- ---- the nearer neighbour
abbrev Pick : ℕ → ℕ → ℕ → ℕ → Type 0
Pick n l h r = ((r ≡ l) × (2 * n ≤ l + h)) ⊎ ((r ≡ h) × (l + h ≤ 2 * n))

pub record Between (n l h r : ℕ) : Type 0 where
  pub low : l ≤ n
  pub high : n < h
  pub pick : Pick n l h r

pub record Tie (n l h r y : ℕ) : Type 0 where
  pub middle : 2 * n ≡ l + h
  pub neighbours : ((r ≡ l) × (y ≡ h)) ⊎ ((r ≡ h) × (y ≡ l))

-- ---- a y outside the two
module _ {n l h r : ℕ} (b : Between n l h r) where
  pub near : (y : ℕ) → Outside l h y → apart n r ≤ apart n y
  near y o = go b.pick o
    where
      go : Pick n l h r → Outside l h y → apart n r ≤ apart n y
      go (inl p) (inl o) = omega arith
      go (inl p) (inr o) = omega arith
      go (inr p) (inl o) = omega arith
      go (inr p) (inr o) = omega arith

  pub tie : (y : ℕ) → Outside l h y → (y ≡ r → ⊥) → apart n r ≡ apart n y → Tie n l h r y
  tie y o other e = go b.pick o
    where
      go : Pick n l h r → Outside l h y → Tie n l h r y
      go (inl p) (inl o) = absurd (other (omega arith))
      go (inl p) (inr o) = record { middle = omega arith; neighbours = inl (p.0, omega arith) }
      go (inr p) (inl o) = record { middle = omega arith; neighbours = inr (p.0, omega arith) }
      go (inr p) (inr o) = absurd (other (omega arith))

-- ---- a y of either sign: below zero nothing is nearer than zero is, and zero is outside the two
module _ {n l h r : ℕ} (b : Between n l h r) where
  zero_near : apart n r ≤ n
  zero_near = omega (arith, near b 0 (inl zero-le))

  pub spread_near : (alike : Bool) (y : ℕ) → Outside l h y → apart n r ≤ spread alike n y
  spread_near true y o = near b y o
  spread_near false y o = omega (arith, zero_near)

  -- Where another is as near, n is in the middle; or zero was chosen, and the other is the other zero.
  pub spread_tie : (alike : Bool) (y : ℕ) → Outside l h y → (alike ≡ true → y ≡ r → ⊥) → apart n r ≡ spread alike n y → (r ≡ 0) ⊎ (2 * n ≡ l + h)
  spread_tie true y o other e = inr (tie b y o (other refl) e).middle
  spread_tie false y o other e = elim (eq-zero-or-pos r) [
    | inl z ↦ inl z
    | inr s ↦ inr (tie b 0 (inl zero-le) (omega arith) (omega (arith, zero_near))).middle
  ]

-- ---- fractions: N / D is Y / l
pub record Scaled (l N D Y : ℕ) : Type 0 where
  pub same : N * l ≡ Y * D

-- So the distance of a / c and N / D, times c, is that of a * l and Y * c, over l.
pub spread_scaled : {l N D Y : ℕ} (alike : Bool) (a c : ℕ) → Scaled l N D Y → Scaled l (spread alike (a * D) (N * c)) D (spread alike (a * l) (Y * c))
spread_scaled {l} {N} {D} {Y} true a c e =
    let left : a * D * l ≡ a * l * D = omega arith in
    let right : N * c * l ≡ Y * c * D = omega (arith, ap (λ (z : ℕ). z * c) e.same) in
    record { same = apart_mul (a * D) (N * c) l ∙ ap (λ (z : ℕ). apart z (N * c * l)) left ∙ ap (apart (a * l * D)) right ∙ sym (apart_mul (a * l) (Y * c) D) }
spread_scaled {l} {N} {D} {Y} false a c e = record { same = omega (arith, ap (λ (z : ℕ). z * c) e.same) }

-- A / D and B / E, which are p / l and q / l, are in the order of p and q.
module _ {l A D p B E q : ℕ} (L : 0 < l) (e : Scaled l A D p) (e' : Scaled l B E q) where
  pub scale_le : p ≤ q → A * E ≤ B * D
  scale_le h = transfer A B D E p q l l L L e.same e'.same (mul-le-mul_right l h)

  unscale_le : 0 < D → 0 < E → A * E ≤ B * D → p ≤ q
  unscale_le P Q h = le_of_mul-le-mul_right (transfer p q l l A B D E P Q (sym e.same) (sym e'.same) h) L

pub unscale_eq : {l A D p B E q : ℕ} → 0 < l → Scaled l A D p → Scaled l B E q → 0 < D → 0 < E → A * E ≡ B * D → p ≡ q
unscale_eq L e e' P Q h = le_antisymm (unscale_le L e e' P Q (le_of_eq h)) (unscale_le L e' e Q P (le_of_eq (sym h)))
