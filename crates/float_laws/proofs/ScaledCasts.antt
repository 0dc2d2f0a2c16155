-- Casts of a product: the truncated value of x * k grows with x, for a positive k and for +infinity; and a zero times +infinity has the value 0 either way.
use mathlib.Core.Path.{◌≡◌, refl}
use mathlib.Core.Logic.{inl, inr}
use mathlib.Core.Bool.{Bool, true, false, cond}
use Prim.Native.Nat.{◌+◌, ◌*◌, ◌≤◌, ◌<◌}
use native.Mathlib.Nat.{lt_irrefl, eq-zero-or-pos}
use native.Mathlib.Omega.{arith}
use lib.Dec.{T, lt→ltb}
use lib.IntN.{pos, negsuc}
use lib.Signed.{le_z}
use lib.Ieee.{Float, nan, inf, fin, Format, up, neg, mul, lt, le, is_nan, of_bits, to_signed}
use lib.Ieee.Fits.{up_pos}
use lib.Ieee.Scale.{finite}
use lib.Ieee.Positive.{den, den_pos, positive, first_pos}
use borrow.Author.Tests.{eq-eqb}
use Rattle.base.proofs.NumberLaws.{no_factor}
use Rattle.float32.specs.Casts.{short_of, truncated_of}
use Rattle.float32.specs.Signed.{over, under}
use Rattle.float32.proofs.Order.{Cross, Ordered, from_lowest, to_highest, numbers, le→ordered, le→cross}
use Rattle.float32.proofs.OrderLaws.{finite_between}
use Rattle.float32.proofs.Rounding.{positive_not_zero}
use Rattle.float_laws.proofs.Monotone.{mul_mono}
use Rattle.float32.proofs.CastLaws.{truncated_of_mono_lem, truncated_of_in_lem, truncated_of_nan_lem}

-- ---- the order is kept, by a positive factor and by +infinity, which is 1 / 0: there a zero's product is a NaN, and its truncated value 0
pub truncated_of_scaled_lem : (f : Format) (x y k : Float) → T (positive k) → T (le x y)
    → T (le_z (truncated_of (mul f x k)) (truncated_of (mul f y k)))
truncated_of_scaled_lem f x y k K h = truncated_of_mono_lem (mul f x k) (mul f y k) (mul_mono f x y k K h)

truncated_of_inf_lem : (s : Bool) → truncated_of (inf s) ≡ cond s (negsuc 32766) (pos 32767)
unfolding truncated_of is_nan lt to_signed neg of_bits
truncated_of_inf_lem true = refl
truncated_of_inf_lem false = refl

over_inf : (f : Format) (x : Float) → T (finite x) → 0 < over x → mul f x (inf false) ≡ inf false
unfolding mul
over_inf f nan p h = absurd p
over_inf f (inf s) p h = absurd p
over_inf f (fin true m e) p h = absurd (lt_irrefl 0 h)
over_inf f (fin false m e) p h = rw (positive_not_zero m (lt→ltb 0 m (first_pos m (up e) h)))

under_inf : (f : Format) (x : Float) → T (finite x) → 0 < under x → mul f x (inf false) ≡ inf true
unfolding mul
under_inf f nan p h = absurd p
under_inf f (inf s) p h = absurd p
under_inf f (fin true m e) p h = rw (positive_not_zero m (lt→ltb 0 m (first_pos m (up e) h)))
under_inf f (fin false m e) p h = absurd (lt_irrefl 0 h)

zero_inf : (f : Format) (x : Float) → T (finite x) → over x ≡ 0 → under x ≡ 0 → mul f x (inf false) ≡ nan
unfolding mul
zero_inf f nan p h k = refl
zero_inf f (inf s) p h k = absurd p
zero_inf f (fin true m e) p h k = rw (eq-eqb m 0 (no_factor m (up e) (up_pos e) k))
zero_inf f (fin false m e) p h k = rw (eq-eqb m 0 (no_factor m (up e) (up_pos e) h))

inf_inf : (f : Format) (s : Bool) → mul f (inf s) (inf false) ≡ inf s
unfolding mul
inf_inf f true = refl
inf_inf f false = refl

-- x ≤ y, with no part of x below 0 and none of y above it
zeros : (x y : Float) → Cross x y → under x ≡ 0 → over y ≡ 0 → (over x ≡ 0) × (under y ≡ 0)
zeros x y h z w =
    let k = rw (z, w) at h in
    (no_factor (over x) (den y) (den_pos y) (first k), no_factor (under y) (den x) (den_pos x) (second k))
  where
    first : over x * den y + under y * den x ≤ 0 * den x + 0 * den y → over x * den y ≡ 0
    first h = omega arith

    second : over x * den y + under y * den x ≤ 0 * den x + 0 * den y → under y * den x ≡ 0
    second h = omega arith

infinite : (f : Format) {x y : Float} → Ordered x y → T (le_z (truncated_of (mul f x (inf false))) (truncated_of (mul f y (inf false))))
infinite f (from_lowest {y = y} p) = rw (inf_inf f true, truncated_of_inf_lem true) (truncated_of_in_lem (mul f y (inf false))).0
infinite f (to_highest {x = x} p) = rw (inf_inf f false, truncated_of_inf_lem false) (truncated_of_in_lem (mul f x (inf false))).1
infinite f (numbers {x = x} {y = y} p q h) =
    elim (eq-zero-or-pos (under x)) [
      | inr l ↦ rw (under_inf f x p l, truncated_of_inf_lem true) (truncated_of_in_lem (mul f y (inf false))).0
      | inl z ↦
          elim (eq-zero-or-pos (over y)) [
            | inr l ↦ rw (over_inf f y q l, truncated_of_inf_lem false) (truncated_of_in_lem (mul f x (inf false))).1
            | inl w ↦
                let o = zeros x y h z w in
                rw (zero_inf f x p o.0 z, zero_inf f y q w o.1, truncated_of_nan_lem) tt
          ]
    ]

pub truncated_of_infinite_lem : (f : Format) (x y : Float) → T (le x y)
    → T (le_z (truncated_of (mul f x (inf false))) (truncated_of (mul f y (inf false))))
truncated_of_infinite_lem f x y h = infinite f (le→ordered x y h)

-- from -0 to 0 there are only zeros, and the node value of their product is 0 too
no_size : (d : Float) → Cross (fin true 0 (pos 0)) d → Cross d (fin false 0 (pos 0)) → (over d ≡ 0) × (under d ≡ 0)
no_size nan h k = (refl, refl)
no_size (inf s) h k = (refl, refl)
no_size (fin true m e) h k = (refl, omega arith)
no_size (fin false m e) h k = (omega arith, refl)

short_of_nan_lem : short_of nan ≡ pos 0
unfolding short_of to_signed
short_of_nan_lem = refl

pub node_is_truncated_infinite : (f : Format) (d : Float) → T (le (fin true 0 (pos 0)) d) → T (le d (fin false 0 (pos 0)))
    → short_of (mul f d (inf false)) ≡ truncated_of (mul f d (inf false))
node_is_truncated_infinite f d h k =
    let p = finite_between (fin true 0 (pos 0)) d (fin false 0 (pos 0)) tt tt h k in
    let z = no_size d (le→cross (fin true 0 (pos 0)) d tt p h) (le→cross d (fin false 0 (pos 0)) p tt k) in
    rw (zero_inf f d p z.0 z.1, short_of_nan_lem, truncated_of_nan_lem)
