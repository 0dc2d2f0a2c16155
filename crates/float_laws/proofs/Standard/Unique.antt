-- Only one function is roundTiesToEven: a second value that is as near as what `round` gives is its neighbour, whose last digit is odd.
use mathlib.Core.Path.{◌≡◌, refl, sym, ap, ◌∙◌, subst}
use mathlib.Core.Logic.{inl, inr}
use mathlib.Core.Bool.{Bool, false}
use Prim.Native.Nat.{ℕ, ◌+◌, ◌*◌, ◌^◌, ◌<◌}
use native.Mathlib.Nat.{le_antisymm, lt_of_not-le, eq_of_mul-eq-mul_right}
use native.Mathlib.Decide.{dec_le, ℕ_discrete}
use lib.Dec.{T}
use lib.IntN.{ℤ}
use lib.Pow.{pow_pos}
use lib.Ieee.{Float, nan, inf, fin, Format, prec, low, up, down, round, fits}
use lib.Ieee.Fits.{down_pos, round-fits}
use lib.Ieee.Exact.{HasValue}
use Rattle.float_laws.specs.RoundStandard.{AsNear, Nearest, too_large, TiesToEven, Rounds}
use Rattle.float32.proofs.root.Written.{same_value}
use Rattle.float_laws.proofs.root.Grid.{OnGrid, on_grid}
use Rattle.float_laws.proofs.root.Unique.{odd_neighbour}
use Rattle.float_laws.proofs.Standard.Distances.{Tie, tie, Scaled, unscale_eq}
use Rattle.float_laws.proofs.Standard.Kept.{in_units, Kept, kept, outside}
use Rattle.float_laws.proofs.Standard.TiesToEven.{own_scaled, grid_scaled, nearest_is, round_value, last_digit, ties_to_even}

-- ---- v is what was kept, and r, of the same sign, is a nearest number too
module _ (f : Format) (s : Bool) (a c : ℕ) (C : 0 < c) (i : Kept f a c) (m : ℕ) (e : ℤ)
    (value : Scaled (2 ^ low f) (m * up e) (down e) (i.Q * 2 ^ i.k)) (held : T (fits f (fin s m e)))
    (m' : ℕ) (e' : ℤ) (j : Nearest f s a c (fin s m' e')) where
  abbrev v : Float
  v = fin s m e

  abbrev r : Float
  r = fin s m' e'

  y : OnGrid f m' e'
  y = on_grid f s m' e' j.held

  abbrev Y : ℕ
  Y = m' * 2 ^ y.j

  abbrev R : ℕ
  R = i.Q * 2 ^ i.k

  as_near : AsNear s a c v r
  as_near = le_antisymm ((nearest_is f s a c C i m e value held).nearest r j.held tt) (j.nearest v held tt)

  -- they are equal, or neighbours
  neighbours : (Y ≡ R → ⊥) → Tie (in_units f a) (i.q * 2 ^ i.k * c) ((i.q + 1) * 2 ^ i.k * c) (R * c) (Y * c)
  neighbours differ =
      tie i.between (Y * c) (outside f a c i m' y.j y.digits) (λ z. differ (eq_of_mul-eq-mul_right c C Y R z))
      (unscale_eq (pow_pos (low f)) (own_scaled f s a c m e R value) (own_scaled f s a c m' e' Y (grid_scaled y)) (down_pos e) (down_pos e') as_near)

  clash : (Y ≡ R → ⊥) → ⊥
  clash differ =
      let t = neighbours differ in
      let other : v ≡ r → ⊥ =
      λ z. differ (eq_of_mul-eq-mul_right (down e') (down_pos e') Y R
      (sym y.same ∙ (subst (λ (u : Float). HasValue u s R (2 ^ low f)) z (refl, value.same)).1)) in
      odd_neighbour f i.q i.k i.Q (fin false m' e') Y i.digits i.leads (i.even t.middle)
      (sym (last_digit f s m' e') ∙ j.even v held tt other (sym as_near))
      (refl, y.same)
      (elim t.neighbours [ inl p ↦ inl (less p.0, less p.1) | inr p ↦ inr (less p.0, less p.1) ])
    where
      less : {x z : ℕ} → x * c ≡ z * c → x ≡ z
      less {x} {z} p = eq_of_mul-eq-mul_right c C x z p

  one_nearest : r ≡ v
  one_nearest = elim (ℕ_discrete Y R) [
    | yes p ↦ same_value f s r v R j.held held (refl, subst (λ (z : ℕ). m' * up e' * 2 ^ low f ≡ z * down e') p y.same) (refl, value.same)
    | no p ↦ absurd (clash p)
  ]

unique : (f : Format) (s : Bool) (a c : ℕ) → 0 < c → (i : Kept f a c) (v r : Float) → T (fits f v)
    → HasValue v s (i.Q * 2 ^ i.k) (2 ^ low f) → Nearest f s a c r → r ≡ v
unique f s a c C i nan r held h j = absurd h
unique f s a c C i (inf t) r held h j = absurd h
unique f s a c C i (fin t m e) nan held h j = absurd j.number
unique f s a c C i (fin t m e) (inf u) held h j = absurd j.number
unique f s a c C i (fin t m e) (fin u m' e') held h j =
    ap (λ (u : Bool). fin u m' e') j.sign
    ∙ one_nearest f s a c C i m e (record { same = h.1 }) (subst (λ (t : Bool). T (fits f (fin t m e))) h.0 held) m' e'
    (subst (λ (u : Bool). Nearest f s a c (fin u m' e')) j.sign j)
    ∙ sym (ap (λ (t : Bool). fin t m e) h.0)

-- What is rounded by the standard's statement is what `round` gives.
pub only_value : (f : Format) (s : Bool) (a c : ℕ) (r : Float) → 0 < c → TiesToEven f s a c r → r ≡ round f s a c
only_value f s a c r C i = elim (dec_le (too_large f * c) (a * 2 ^ prec f)) [
  | yes h ↦ i.beyond h ∙ sym ((ties_to_even f s a c C).beyond h)
  | no h ↦ let l : a * 2 ^ prec f < too_large f * c = lt_of_not-le h in let k = kept f a c C in unique f s a c C k (round f s a c) r
      (round-fits f s a c) (round_value f s a c C k l) (i.within l)
]

pub one_value : (f : Format) (s : Bool) (a c : ℕ) (r r' : Float) → 0 < c → TiesToEven f s a c r → TiesToEven f s a c r' → r ≡ r'
one_value f s a c r r' C i j = only_value f s a c r C i ∙ sym (only_value f s a c r' C j)

-- Whatever rounds by the standard's statement is `round`, on every exact number.
pub only : (f : Format) (g : Bool → ℕ → ℕ → Float) → Rounds f g → (s : Bool) (a c : ℕ) → 0 < c → g s a c ≡ round f s a c
only f g i s a c C = only_value f s a c (g s a c) C (i s a c C)
