-- `round` is roundTiesToEven, in either format: what it gives is the nearer of the two neighbours of the exact number (`Kept`,
-- `Distances`), no number of the format lies between the two (root/Grid), and it gives an infinity where it should (`Overflow`).
use mathlib.Core.Path.{◌≡◌, refl, sym, ap, ◌∙◌, subst}
use mathlib.Core.Logic.{◌⊎◌, inl, inr}
use mathlib.Core.Bool.{Bool, true, false, beq, true≢false}
use Prim.Native.Nat.{ℕ, ◌+◌, ◌*◌, ◌%◌, ◌^◌, ◌<◌}
use native.Mathlib.Nat.{mul-pos, eq-zero-or-pos, eq_of_mul-eq-mul_right}
use native.Mathlib.Omega.{arith}
use lib.Dec.{T}
use lib.IntN.{ℤ}
use lib.Pow.{pow_pos}
use lib.Ieee.{Float, nan, inf, fin, Format, binary32, binary64, prec, low, up, down, round, fits, to_bits}
use lib.Ieee.Fits.{down_pos, round-fits}
use lib.Ieee.Exact.{HasValue, units_val}
use lib.Ieee.Scale.{finite}
use Rattle.float32.specs.Signed.{apart}
use Rattle.float_laws.specs.RoundStandard.{spread, distance, NoNearer, AsNear, Nearest, too_large, Rounds}
use Rattle.float32.proofs.root.Written.{same_value, even_pattern}
use Rattle.float_laws.proofs.root.Grid.{OnGrid, on_grid}
use Rattle.float_laws.proofs.Standard.Distances.{spread_near, spread_tie, Scaled, spread_scaled, scale_le, unscale_eq}
use Rattle.float_laws.proofs.Standard.Kept.{in_units, Kept, kept, leads_kept, outside}
use Rattle.float_laws.proofs.Standard.Overflow.{overflows, in_range}

-- ---- signs
beq_eq : (s t : Bool) → beq s t ≡ true → t ≡ s
beq_eq true true e = refl
beq_eq true false e = absurd (true≢false (sym e))
beq_eq false true e = absurd (true≢false (sym e))
beq_eq false false e = refl

beq_self : (s : Bool) → beq s s ≡ true
beq_self true = refl
beq_self false = refl

-- the last digit does not turn on the sign
pub last_digit : (f : Format) (s : Bool) (m : ℕ) (e : ℤ) → to_bits f (fin s m e) % 2 ≡ to_bits f (fin false m e) % 2
unfolding to_bits
last_digit binary32 true m e = omega arith
last_digit binary64 true m e = omega arith
last_digit f false m e = refl

-- ---- the distance to a value of the format, in smallest values
distance_scaled : (f : Format) (s : Bool) (a c : ℕ) (t : Bool) (m : ℕ) (e : ℤ) (Y : ℕ) → Scaled (2 ^ low f) (m * up e) (down e) Y
    → Scaled (2 ^ low f) (distance s a c (fin t m e)) (down e) (spread (beq s t) (in_units f a) (Y * c))
distance_scaled f s a c t m e Y h = spread_scaled (beq s t) a c h

pub own_scaled : (f : Format) (s : Bool) (a c m : ℕ) (e : ℤ) (Y : ℕ) → Scaled (2 ^ low f) (m * up e) (down e) Y
    → Scaled (2 ^ low f) (distance s a c (fin s m e)) (down e) (apart (in_units f a) (Y * c))
own_scaled f s a c m e Y h =
    subst (λ (b : Bool). Scaled (2 ^ low f) (distance s a c (fin s m e)) (down e) (spread b (in_units f a) (Y * c))) (beq_self s)
    (distance_scaled f s a c s m e Y h)

pub grid_scaled : {f : Format} {m : ℕ} {e : ℤ} (y : OnGrid f m e) → Scaled (2 ^ low f) (m * up e) (down e) (m * 2 ^ y.j)
grid_scaled y = record { same = y.same }

-- ---- r is what was kept, Q * 2 ^ k smallest values, beside another number of the format
module _ (f : Format) (s : Bool) (a c : ℕ) (C : 0 < c) (i : Kept f a c) (m : ℕ) (e : ℤ) (value : Scaled (2 ^ low f) (m * up e) (down e) (i.Q * 2 ^ i.k)) where
  abbrev r : Float
  r = fin s m e

  abbrev R : ℕ
  R = i.Q * 2 ^ i.k

  own : Scaled (2 ^ low f) (distance s a c r) (down e) (apart (in_units f a) (R * c))
  own = own_scaled f s a c m e R value

  no_nearer : (y : Float) → T (fits f y) → T (finite y) → NoNearer s a c r y
  no_nearer nan h g = absurd g
  no_nearer (inf t) h g = absurd g
  no_nearer (fin t m' e') h g =
      let y = on_grid f t m' e' h in
      let Y = m' * 2 ^ y.j in
      scale_le (pow_pos (low f)) own (distance_scaled f s a c t m' e' Y (grid_scaled y))
      (spread_near i.between (beq s t) (Y * c) (outside f a c i m' y.j y.digits))

  -- Another value of r's sign is another number.
  differ : (t : Bool) (m' : ℕ) (e' : ℤ) (Y : ℕ) → T (fits f r) → T (fits f (fin t m' e')) → (fin t m' e' ≡ r → ⊥)
      → m' * up e' * 2 ^ low f ≡ Y * down e' → beq s t ≡ true → Y * c ≡ R * c → ⊥
  differ t m' e' Y j h other y alike z =
      let same = eq_of_mul-eq-mul_right c C Y R z in
      other (same_value f s (fin t m' e') r R h j (beq_eq s t alike, subst (λ (x : ℕ). m' * up e' * 2 ^ low f ≡ x * down e') same y) (refl, value.same))

  even_kept : (R * c ≡ 0) ⊎ (2 * in_units f a ≡ i.q * 2 ^ i.k * c + (i.q + 1) * 2 ^ i.k * c) → i.Q % 2 ≡ 0
  even_kept (inl z) = elim (eq-zero-or-pos i.Q) [ inl z ↦ ap (λ (q : ℕ). q % 2) z | inr h ↦ absurd (omega (arith, mul-pos (mul-pos h (pow_pos i.k)) C)) ]
  even_kept (inr h) = i.even h

  tied : (y : Float) → T (fits f r) → T (fits f y) → T (finite y) → (y ≡ r → ⊥) → AsNear s a c r y → i.Q % 2 ≡ 0
  tied nan j h g other t = absurd g
  tied (inf u) j h g other t = absurd g
  tied (fin u m' e') j h g other t =
      let y = on_grid f u m' e' h in
      let Y = m' * 2 ^ y.j in
      even_kept
      (spread_tie i.between (beq s u) (Y * c) (outside f a c i m' y.j y.digits) (differ u m' e' Y j h other y.same)
      (unscale_eq (pow_pos (low f)) own (distance_scaled f s a c u m' e' Y (grid_scaled y)) (down_pos e) (down_pos e') t))

  pub nearest_is : T (fits f r) → Nearest f s a c r
  nearest_is j =
      record {
        held = j;
        number = tt;
        sign = refl;
        nearest = no_nearer;
        even =
            λ y h g other t. last_digit f s m e ∙ even_pattern f (fin false m e) i.Q i.k i.at_most (leads_kept f a c i)
            (refl, value.same) (tied y j h g other t);
      }

-- ---- the standard
pub round_value : (f : Format) (s : Bool) (a c : ℕ) → 0 < c → (i : Kept f a c) → a * 2 ^ prec f < too_large f * c
    → HasValue (round f s a c) s (i.Q * 2 ^ i.k) (2 ^ low f)
round_value f s a c C i h =
    subst (λ (v : Float). HasValue v s (i.Q * 2 ^ i.k) (2 ^ low f)) (sym (i.is s)) (units_val f s i.Q i.k (in_range f a c C i h))

rounded : (f : Format) (s : Bool) (a c : ℕ) → 0 < c → (i : Kept f a c) (v : Float) → T (fits f v)
    → HasValue v s (i.Q * 2 ^ i.k) (2 ^ low f) → Nearest f s a c v
rounded f s a c C i nan j h = absurd h
rounded f s a c C i (inf t) j h = absurd h
rounded f s a c C i (fin t m e) j h =
    subst (λ (t : Bool). T (fits f (fin t m e)) → Nearest f s a c (fin t m e)) (sym h.0) (nearest_is f s a c C i m e (record { same = h.1 })) j

pub ties_to_even : (f : Format) → Rounds f (round f)
ties_to_even f s a c C =
    record {
      beyond = overflows f s a c C;
      within = λ h. let i = kept f a c C in rounded f s a c C i (round f s a c) (round-fits f s a c) (round_value f s a c C i h);
    }
