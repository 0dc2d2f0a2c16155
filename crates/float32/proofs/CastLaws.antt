-- The casts to integers: what each gives, that each keeps the order, and that the node value and the truncated one agree from -32767 to 32767.
use mathlib.Core.Path.{◌≡◌, refl, sym, ap, ◌∙◌}
use mathlib.Core.Logic.{inl, inr}
use mathlib.Core.Bool.{Bool, true, false, not, cond}
use Prim.Native.Nat.{ℕ, ◌+◌, ◌*◌, ◌-◌, ◌/◌, ◌^◌, ◌≤◌, ◌<◌, min}
use native.Mathlib.Nat.{zero-div, div-eq_of_lt-le, le-div_iff_mul-le, div-lt_iff_lt-mul}
use native.Mathlib.Omega.{arith}
use lib.Dec.{T, le→leb, lit≤}
use lib.IntN.{ℤ, pos, negsuc, neg_ℤ}
use lib.Signed.{le_z}
use lib.Pow.{pow_mono}
use lib.Ieee.{Float, nan, inf, fin, up, down, lt, le, neg, is_nan, of_bits, binary32, to_signed}
use lib.Ieee.Fits.{down_pos}
use lib.Ieee.Nearest.{div_mono}
use Rattle.float32.specs.Casts.{cast_i32, short_of, clamp_of, limit, truncated_of}
use Rattle.float32.specs.Signed.{lowest, highest}
use Rattle.float32.proofs.Order.{Ordered, from_lowest, to_highest, numbers, le→ordered, lt→strict}
use Rattle.float32.proofs.OrderLaws.{le_no_nan, le_or_lt, lt_le}
use Rattle.base.proofs.IntegerOrder.{le_z_refl_lem, le_z_antisym_lem, le_z_neg_lem, le_z_across_lem}
use Rattle.float32.proofs.ClampLaws.{clamp_of_low_lem, clamp_of_high_lem, clamp_of_mono_lem, clamp_of_self_lem}
use Rattle.float32.proofs.Low16.{low16_self}

-- ---- Rule F6 (Rust Reference, numeric cast): a NaN gives 0, a number is cut toward zero, and one past either end gives that end. At h = 31 this is `cast_i32`.
-- either end of the range
abbrev pub end : ℕ → Bool → ℤ
end h s = cond s (lowest h) (highest h)

pub to_signed_nan_lem : (h : ℕ) → to_signed h nan ≡ pos 0
unfolding to_signed
to_signed_nan_lem h = refl

pub to_signed_inf_lem : (h : ℕ) (s : Bool) → to_signed h (inf s) ≡ end h s
unfolding to_signed
to_signed_inf_lem h s = refl

-- q is the whole part of the number's size
pub to_signed_whole_lem : (h : ℕ) (s : Bool) (m : ℕ) (e : ℤ) (q : ℕ) → q * down e ≤ m * up e → m * up e < (q + 1) * down e → q < 2 ^ h
    → to_signed h (fin s m e) ≡ cond s (neg_ℤ (pos q)) (pos q)
unfolding to_signed
to_signed_whole_lem h s m e q a b c =
    let i : m * up e / down e ≡ q = div-eq_of_lt-le (down e) a b in
    let j : min q (2 ^ h) ≡ q = omega arith in
    let k : min q (2 ^ h - 1) ≡ q = omega arith in
    rw (i, j, k)

pub to_signed_past_lem : (h : ℕ) (s : Bool) (m : ℕ) (e : ℤ) → 2 ^ h * down e ≤ m * up e → to_signed h (fin s m e) ≡ end h s
unfolding to_signed
to_signed_past_lem h s m e a =
    let i : 2 ^ h ≤ m * up e / down e = (le-div_iff_mul-le (down_pos e)).1 a in
    let j : min (m * up e / down e) (2 ^ h) ≡ 2 ^ h = omega arith in
    let k : min (m * up e / down e) (2 ^ h - 1) ≡ 2 ^ h - 1 = omega arith in
    rw (j, k)

-- ---- the order is kept
low_end : (h : ℕ) (x : Float) → T (le_z (end h true) (to_signed h x))
unfolding to_signed
low_end h nan = le_z_across_lem (2 ^ h) 0
low_end h (inf true) = le_z_refl_lem (neg_ℤ (pos (2 ^ h)))
low_end h (inf false) = le_z_across_lem (2 ^ h) (2 ^ h - 1)
low_end h (fin true m e) = le_z_neg_lem (2 ^ h) (min (m * up e / down e) (2 ^ h)) (omega arith)
low_end h (fin false m e) = le_z_across_lem (2 ^ h) (min (m * up e / down e) (2 ^ h - 1))

high_end : (h : ℕ) (x : Float) → T (le_z (to_signed h x) (end h false))
unfolding to_signed
high_end h nan = omega (arith, le→leb)
high_end h (inf true) = le_z_across_lem (2 ^ h) (2 ^ h - 1)
high_end h (inf false) = le_z_refl_lem (pos (2 ^ h - 1))
high_end h (fin true m e) = le_z_across_lem (min (m * up e / down e) (2 ^ h)) (2 ^ h - 1)
high_end h (fin false m e) = omega (arith, le→leb)

zeros : (a b c d : ℕ) → a ≤ 0 → b ≤ 0 → T (le_z (pos (min a c)) (neg_ℤ (pos (min b d))))
zeros a b c d h k =
    let i : min a c ≡ 0 = omega arith in
    let j : min b d ≡ 0 = omega arith in
    rw (i, j) tt

to_signed_ordered_lem : (h : ℕ) {x y : Float} → Ordered x y → T (le_z (to_signed h x) (to_signed h y))
unfolding to_signed
to_signed_ordered_lem h (from_lowest {y = y} p) = low_end h y
to_signed_ordered_lem h (to_highest {x = x} p) = high_end h x
to_signed_ordered_lem h (numbers {x = fin true m e} {y = fin true n d} p q k) =
    le_z_neg_lem (min (m * up e / down e) (2 ^ h)) (min (n * up d / down d) (2 ^ h))
    (let l = div_mono (n * up d) (down d) (m * up e) (down e) (down_pos d) (down_pos e) (omega arith) in omega arith)
to_signed_ordered_lem h (numbers {x = fin true m e} {y = fin false n d} p q k) = le_z_across_lem (min (m * up e / down e) (2 ^ h)) (min (n * up d / down d) (2 ^ h - 1))
to_signed_ordered_lem h (numbers {x = fin false m e} {y = fin false n d} p q k) =
    let l = div_mono (m * up e) (down e) (n * up d) (down d) (down_pos e) (down_pos d) (omega arith) in
    le→leb (min (m * up e / down e) (2 ^ h - 1)) (min (n * up d / down d) (2 ^ h - 1)) (omega arith)
to_signed_ordered_lem h (numbers {x = fin false m e} {y = fin true n d} p q k) =
    zeros (m * up e / down e) (n * up d / down d) (2 ^ h - 1) (2 ^ h)
    (rw (zero-div (down d)) at (div_mono (m * up e) (down e) 0 (down d) (down_pos e) (down_pos d) (omega arith)))
    (rw (zero-div (down e)) at (div_mono (n * up d) (down d) 0 (down e) (down_pos d) (down_pos e) (omega arith)))
to_signed_ordered_lem h {x = nan} {y = y} (numbers p q k) = elim p [ ]
to_signed_ordered_lem h {x = inf _} {y = y} (numbers p q k) = elim p [ ]
to_signed_ordered_lem h {x = fin false m e} {y = nan} (numbers p q k) = elim q [ ]
to_signed_ordered_lem h {x = fin false m e} {y = inf _} (numbers p q k) = elim q [ ]
to_signed_ordered_lem h {x = fin true m e} {y = nan} (numbers p q k) = elim q [ ]
to_signed_ordered_lem h {x = fin true m e} {y = inf _} (numbers p q k) = elim q [ ]

pub to_signed_mono_lem : (h : ℕ) (x y : Float) → T (le x y) → T (le_z (to_signed h x) (to_signed h y))
to_signed_mono_lem h x y l = to_signed_ordered_lem h (le→ordered x y l)

pub cast_i32_mono_lem : (x y : Float) → T (le x y) → T (le_z (cast_i32 x) (cast_i32 y))
cast_i32_mono_lem x y h = to_signed_mono_lem 31 x y h

-- ---- truncated values
ends : T (le (neg limit) limit)
unfolding le neg of_bits
ends = tt

pub truncated_of_nan_lem : truncated_of nan ≡ pos 0
unfolding truncated_of is_nan
truncated_of_nan_lem = refl

pub truncated_of_number_lem : (x : Float) → T (not (is_nan x)) → truncated_of x ≡ to_signed 15 (clamp_of (neg limit) limit x)
unfolding truncated_of is_nan
truncated_of_number_lem nan p = absurd p
truncated_of_number_lem (inf s) p = refl
truncated_of_number_lem (fin s m e) p = refl

pub truncated_of_mono_lem : (x y : Float) → T (le x y) → T (le_z (truncated_of x) (truncated_of y))
truncated_of_mono_lem x y h =
    let n = le_no_nan x y h in
    rw (truncated_of_number_lem x n.0, truncated_of_number_lem y n.1)
    (to_signed_mono_lem 15 (clamp_of (neg limit) limit x) (clamp_of (neg limit) limit y) (clamp_of_mono_lem (neg limit) limit x y ends h))

low_limit : to_signed 15 (neg limit) ≡ negsuc 32766
unfolding to_signed neg of_bits
low_limit = refl

high_limit : to_signed 15 limit ≡ pos 32767
unfolding to_signed of_bits
high_limit = refl

truncated_of_low_lem : truncated_of (neg limit) ≡ negsuc 32766
unfolding truncated_of is_nan lt to_signed neg of_bits
truncated_of_low_lem = refl

truncated_of_high_lem : truncated_of limit ≡ pos 32767
unfolding truncated_of is_nan lt to_signed neg of_bits
truncated_of_high_lem = refl

number_in : (x : Float) → T (not (is_nan x)) → T (le_z (negsuc 32766) (truncated_of x)) × T (le_z (truncated_of x) (pos 32767))
number_in x p =
    rw (truncated_of_number_lem x p) (
      rw (low_limit) at (to_signed_mono_lem 15 (neg limit) (clamp_of (neg limit) limit x) (clamp_of_low_lem (neg limit) limit x ends p)),
      rw (high_limit) at (to_signed_mono_lem 15 (clamp_of (neg limit) limit x) limit (clamp_of_high_lem (neg limit) limit x ends p)),
    )

pub truncated_of_in_lem : (x : Float) → T (le_z (negsuc 32766) (truncated_of x)) × T (le_z (truncated_of x) (pos 32767))
truncated_of_in_lem nan = rw truncated_of_nan_lem (tt, tt)
truncated_of_in_lem (inf s) = number_in (inf s) (unfold is_nan in tt)
truncated_of_in_lem (fin s m e) = number_in (fin s m e) (unfold is_nan in tt)

-- ---- node values
pub short_of_cast_lem : (x : Float) → T (le_z (negsuc 32767) (cast_i32 x)) → T (le_z (cast_i32 x) (pos 32767)) → short_of x ≡ cast_i32 x
unfolding short_of
short_of_cast_lem x h k = low16_self (cast_i32 x) h k

-- 32768.0: from here on, either way, a node value wraps.
abbrev pub edge : Float
edge = of_bits binary32 0x4700_0000

-- -32768 < x < 32768
abbrev Inside : Float → Type 0
Inside nan = ⊥
Inside (inf s) = ⊥
Inside (fin s m e) = m * up e < 32768 * down e

between : (x : Float) → T (lt (neg edge) x) → T (lt x edge) → Inside x
unfolding of_bits neg lt
between nan h k = h
between (inf true) h k = h
between (inf false) h k = k
between (fin true m e) h k = let l = lt→strict (neg edge) (fin true m e) tt tt h in omega arith
between (fin false m e) h k = let l = lt→strict (fin false m e) edge tt tt k in omega arith

-- it is cut to the same number by any cast to 15 bits or more
cut : (h : ℕ) (s : Bool) (m : ℕ) (e : ℤ) → 15 ≤ h → m * up e < 32768 * down e
    → to_signed h (fin s m e) ≡ cond s (neg_ℤ (pos (m * up e / down e))) (pos (m * up e / down e))
unfolding to_signed
cut h s m e l k =
    let i : m * up e / down e < 32768 = (div-lt_iff_lt-mul (down_pos e)).1 k in
    let j : 2 ^ 15 ≤ 2 ^ h = pow_mono l in
    let a : min (m * up e / down e) (2 ^ h) ≡ m * up e / down e = omega arith in
    let b : min (m * up e / down e) (2 ^ h - 1) ≡ m * up e / down e = omega arith in
    rw (a, b)

same_cast : (x : Float) → Inside x → cast_i32 x ≡ to_signed 15 x
same_cast nan h = absurd h
same_cast (inf s) h = absurd h
same_cast (fin s m e) h = cut 31 s m e (lit≤ tt) h ∙ sym (cut 15 s m e (lit≤ tt) h)

above_low : (x : Float) → Inside x → T (le_z (negsuc 32766) (to_signed 15 x))
above_low nan h = absurd h
above_low (inf s) h = absurd h
above_low (fin true m e) h =
    let i : m * up e / down e < 32768 = (div-lt_iff_lt-mul (down_pos e)).1 h in
    rw (cut 15 true m e (lit≤ tt) h) (le_z_neg_lem 32767 (m * up e / down e) (omega arith))
above_low (fin false m e) h = rw (cut 15 false m e (lit≤ tt) h) tt

past_high : (x : Float) → Inside x → T (le limit x) → to_signed 15 x ≡ truncated_of x
past_high x i h =
    le_z_antisym_lem (to_signed 15 x) (pos 32767) (high_end 15 x) (rw high_limit at (to_signed_mono_lem 15 limit x h))
    ∙ le_z_antisym_lem (pos 32767) (truncated_of x) (rw truncated_of_high_lem at (truncated_of_mono_lem limit x h)) (truncated_of_in_lem x).1

past_low : (x : Float) → Inside x → T (le x (neg limit)) → to_signed 15 x ≡ truncated_of x
past_low x i h =
    le_z_antisym_lem (to_signed 15 x) (negsuc 32766) (rw low_limit at (to_signed_mono_lem 15 x (neg limit) h)) (above_low x i)
    ∙ le_z_antisym_lem (negsuc 32766) (truncated_of x) (truncated_of_in_lem x).0 (rw truncated_of_low_lem at (truncated_of_mono_lem x (neg limit) h))

same_truncated : (x : Float) → T (not (is_nan x)) → Inside x → to_signed 15 x ≡ truncated_of x
same_truncated x p i =
    elim (le_or_lt (neg limit) x (le_no_nan (neg limit) limit ends).0 p) [
      | inl a ↦
          elim (le_or_lt x limit p (le_no_nan (neg limit) limit ends).1) [
            | inl b ↦ ap (to_signed 15) (sym (clamp_of_self_lem (neg limit) limit x a b)) ∙ sym (truncated_of_number_lem x p)
            | inr b ↦ past_high x i (lt_le limit x b)
          ]
      | inr a ↦ past_low x i (lt_le x (neg limit) a)
    ]

pub short_of_is_cast_i32_lem : (x : Float) → T (lt (neg edge) x) → T (lt x edge) → short_of x ≡ cast_i32 x
short_of_is_cast_i32_lem x h k =
    let e = same_cast x (between x h k) in
    short_of_cast_lem x (rw e (low_end 15 x)) (rw e (high_end 15 x))

-- The node value and the truncated value are one as long as the first does not wrap.
pub short_of_is_truncated_of_lem : (x : Float) → T (lt (neg edge) x) → T (lt x edge) → short_of x ≡ truncated_of x
short_of_is_truncated_of_lem x h k =
    short_of_is_cast_i32_lem x h k ∙ same_cast x (between x h k) ∙ same_truncated x (le_no_nan x edge (lt_le x edge k)).0 (between x h k)
