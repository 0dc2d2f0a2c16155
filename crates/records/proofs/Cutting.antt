-- The whole part of a float from 0 to 32768: with 2 ^ 23 added it is rounded to a whole number, the part or the next, and a comparison tells which.
use mathlib.Core.Path.{◌≡◌, refl, sym, ap, ◌∙◌, subst}
use mathlib.Core.Bool.{Bool, true, false, cond, true≢false}
use Prim.Native.Nat.{ℕ, suc, ◌+◌, ◌-◌, ◌*◌, ◌/◌, ◌%◌, ◌^◌, ◌≤◌, ◌<◌}
use native.Mathlib.Nat.{le_refl, zero-lt-suc, add-mul, mul-pos, mul-le-mul, mul-le-mul_right, mul-lt-mul_of_pos_right, le_of_mul-le-mul_right}
use native.Mathlib.Nat.{mul-mod_left, mul-div_cancel, le-div_iff_mul-le, div-lt_iff_lt-mul}
use native.Mathlib.Decide.{dec_le}
use native.Mathlib.Omega.{arith}
use lib.Dec.{T, leb, leb→le, ltb, eqb, lit≤}
use lib.IntN.{ℤ, pos, negsuc, neg_ℤ}
use lib.Pow.{pow_mono}
use lib.Ieee.{Float, nan, inf, fin, binary32, prec, up, down, fits, le, lt, neg, add, sub, of_bits, to_signed, in_signed, whole}
use lib.Ieee.Fits.{down_pos, add-fits}
use lib.Ieee.Exact.{HasValue}
use lib.Ieee.Positive.{den}
use lib.Ieee.Scale.{finite}
use borrow.Author.Tests.{le-ltb, lt-ltb, le-leb}
use Rattle.float32.specs.Casts.{cast_i32}
use Rattle.float32.specs.Counts.{of_count}
use Rattle.float32.specs.Signed.{over, under, apart, sign_of}
use Rattle.float32.proofs.Order.{le→cross, cross→le, lt→strict}
use Rattle.float32.proofs.OrderLaws.{finite_between, not_lt→le, finite_no_nan}
use Rattle.float32.proofs.CastLaws.{to_signed_whole_lem}
use Rattle.float32.proofs.Exactness.{digits}
use Rattle.float_laws.proofs.CountLaws.{exact_at, of_count_value, le_is}
use Rattle.float_laws.proofs.Monotone.{add_mono}
use Rattle.float_laws.proofs.Standard.Arithmetic.{addition, subtraction}
use Rattle.records.specs.Steps.Cut.{Whole, Inside, edge}

-- 2 ^ 23, and 1
abbrev pub big : Float
big = of_bits binary32 0x4b00_0000

abbrev pub one : Float
one = of_bits binary32 0x3f80_0000

big_value : HasValue big false 8388608 1
unfolding of_bits
big_value = (refl, refl)

one_value : HasValue one false 1 1
unfolding of_bits
one_value = (refl, refl)

-- ---- sums and differences of whole numbers are exact
not_below : (p q : ℕ) → q ≤ p → sign_of false p q ≡ false
not_below p q h = rw (le-ltb p q h) (go (eqb p q))
  where
    go : (b : Bool) → cond b false false ≡ false
    go true = refl
    go false = refl

sum_value : (x y : Float) (a b : ℕ) → a + b < 2 ^ 24 → HasValue x false a 1 → HasValue y false b 1 → HasValue (add binary32 x y) false (a + b) 1
sum_value nan y a b h v w = absurd v
sum_value (inf s) y a b h v w = absurd v
sum_value (fin s m e) nan a b h v w = absurd w
sum_value (fin s m e) (inf t) a b h v w = absurd w
sum_value (fin true m e) (fin t n d) a b h v w = absurd (true≢false v.0)
sum_value (fin false m e) (fin true n d) a b h v w = absurd (true≢false w.0)
sum_value (fin false m e) (fin false n d) a b h v w =
    let x = fin false m e in
    let y = fin false n d in
    let p = m * up e * down d + n * up d * down e in
    let q = 0 * down d + 0 * down e in
    let k : q ≤ p = omega arith in
    subst (λ (s : Bool). HasValue (add binary32 x y) s (a + b) 1) (not_below p q k)
    (exact_at binary32 (sign_of false p q) (apart p q) (down e * down d) (a + b) 0 (add binary32 x y) (mul-pos (down_pos e) (down_pos d)) h (lit≤ tt)
    (total (m * up e) (n * up d) (down e) (down d) v.1 w.1) ((addition binary32).numbers x y tt tt))
  where
    total : (i j c g : ℕ) → i * 1 ≡ a * c → j * 1 ≡ b * g → apart (i * g + j * c) (0 * g + 0 * c) * 2 ^ 0 ≡ (a + b) * (c * g)
    total i j c g p q = omega (arith, ap (λ (z : ℕ). z * g) p, ap (λ (z : ℕ). z * c) q)

difference_value : (x y : Float) (a b : ℕ) → a < 2 ^ 24 → b ≤ a → HasValue x false a 1 → HasValue y false b 1
    → HasValue (sub binary32 x y) false (a - b) 1
difference_value nan y a b h l v w = absurd v
difference_value (inf s) y a b h l v w = absurd v
difference_value (fin s m e) nan a b h l v w = absurd w
difference_value (fin s m e) (inf t) a b h l v w = absurd w
difference_value (fin true m e) (fin t n d) a b h l v w = absurd (true≢false v.0)
difference_value (fin false m e) (fin true n d) a b h l v w = absurd (true≢false w.0)
difference_value (fin false m e) (fin false n d) a b h l v w =
    let x = fin false m e in
    let y = fin false n d in
    let p = m * up e * down d + 0 * down e in
    let q = 0 * down d + n * up d * down e in
    let k : q ≤ p = less (m * up e) (n * up d) (down e) (down d) v.1 w.1 in
    subst (λ (s : Bool). HasValue (sub binary32 x y) s (a - b) 1) (not_below p q k)
    (exact_at binary32 (sign_of false p q) (apart p q) (down e * down d) (a - b) 0 (sub binary32 x y) (mul-pos (down_pos e) (down_pos d)) (omega arith) (lit≤ tt)
    (left (m * up e) (n * up d) (down e) (down d) v.1 w.1) ((subtraction binary32).numbers x y tt tt))
  where
    less : (i j c g : ℕ) → i * 1 ≡ a * c → j * 1 ≡ b * g → 0 * g + j * c ≤ i * g + 0 * c
    less i j c g p q = omega (arith, ap (λ (z : ℕ). z * g) p, ap (λ (z : ℕ). z * c) q, mul-le-mul_right (c * g) l)

    left : (i j c g : ℕ) → i * 1 ≡ a * c → j * 1 ≡ b * g → apart (i * g + 0 * c) (0 * g + j * c) * 2 ^ 0 ≡ (a - b) * (c * g)
    left i j c g p q =
        let k : (a - b) * (c * g) + b * (c * g) ≡ a * (c * g) = sym (add-mul (a - b) b (c * g)) ∙ ap (λ (z : ℕ). z * (c * g)) back in
        omega (arith, ap (λ (z : ℕ). z * g) p, ap (λ (z : ℕ). z * c) q, k)
      where
        back : a - b + b ≡ a
        back = omega arith

-- ---- from 2 ^ 23 on a float is a whole number
whole_from : (y r : Float) (b : ℕ) → HasValue y false b 1 → 8388608 ≤ b → T (finite r) → T (fits binary32 r) → T (le y r)
    → (v : ℕ) × HasValue r false v 1
whole_from nan r b w l p f h = absurd w
whole_from (inf t) r b w l p f h = absurd w
whole_from (fin true n d) r b w l p f h = absurd (true≢false w.0)
whole_from (fin false n d) nan b w l p f h = absurd p
whole_from (fin false n d) (inf s) b w l p f h = absurd p
whole_from (fin false n d) (fin true m e) b w l p f h =
    let c = le→cross (fin false n d) (fin true m e) tt tt h in
    let D = mul-pos (down_pos d) (down_pos e) in
    absurd (omega (arith, ap (λ (z : ℕ). z * down e) w.1, mul-le-mul_right (down d * down e) l))
whole_from (fin false n d) (fin false m (pos k)) b w l p f h = (m * 2 ^ k, (refl, refl))
whole_from (fin false n d) (fin false m (negsuc k)) b w l p f h =
    let c = le→cross (fin false n d) (fin false m (negsuc k)) tt tt h in
    let few : m < 16777216 = (digits binary32 false m (negsuc k) f).few in
    let two : 2 ≤ 2 ^ suc k = pow_mono {i = 1} {j = suc k} (omega arith) in
    let g : b * 2 ^ suc k * down d ≤ m * down d = omega (arith, ap (λ (z : ℕ). z * 2 ^ suc k) w.1) in
    let g' : b * 2 ^ suc k ≤ m = le_of_mul-le-mul_right g (down_pos d) in
    absurd (omega (arith, mul-le-mul {n₁ = 8388608} {n₂ = b} l two))

-- ---- what the steps of `whole` give
module _ (a : Float) (n : ℕ) (w : Whole n a) where
  abbrev sum : Float
  sum = add binary32 a big

  abbrev near : Float
  near = sub binary32 sum big

  -- the counts n and n + 1 on either side of a
  count_le : (x : Float) → HasValue x false n 1 → T (le x a)
  count_le nan v = absurd v
  count_le (inf s) v = absurd v
  count_le (fin true m e) v = absurd (true≢false v.0)
  count_le (fin false m e) v =
      let none = ap (λ (z : ℕ). z * down e) w.above in
      let c : m * up e * den a + under a * down e ≤ over a * down e + 0 * den a =
      omega (arith, none, ap (λ (z : ℕ). z * den a) v.1, mul-le-mul_right (down e) w.from) in
      cross→le (fin false m e) a tt w.number c

  le_count : (x : Float) → HasValue x false (n + 1) 1 → T (le a x)
  le_count nan v = absurd v
  le_count (inf s) v = absurd v
  le_count (fin true m e) v = absurd (true≢false v.0)
  le_count (fin false m e) v =
      let u : over a ≤ (n + 1) * den a = omega (arith, w.upto) in
      let c : over a * down e + 0 * den a ≤ m * up e * den a + under a * down e =
      omega (arith, ap (λ (z : ℕ). z * den a) v.1, mul-le-mul_right (down e) u) in
      cross→le a (fin false m e) w.number tt c

  value_finite : (x : Float) (k : ℕ) → HasValue x false k 1 → T (finite x)
  value_finite nan k v = absurd v
  value_finite (inf s) k v = absurd v
  value_finite (fin s m e) k v = tt

  abbrev low : Float
  low = add binary32 (of_count n) big

  abbrev high : Float
  high = add binary32 (of_count (n + 1)) big

  low_value : HasValue low false (n + 8388608) 1
  low_value = sum_value (of_count n) big n 8388608 (omega (arith, w.small)) (of_count_value n (omega (arith, w.small))) big_value

  high_value : HasValue high false (n + 1 + 8388608) 1
  high_value = sum_value (of_count (n + 1)) big (n + 1) 8388608 (omega (arith, w.small)) (of_count_value (n + 1) (omega (arith, w.small))) big_value

  big_finite : T (finite big)
  big_finite = value_finite big 8388608 big_value

  low_le : T (le low sum)
  low_le = add_mono binary32 (of_count n) a big big_finite (count_le (of_count n) (of_count_value n (omega (arith, w.small))))

  le_high : T (le sum high)
  le_high = add_mono binary32 a (of_count (n + 1)) big big_finite (le_count (of_count (n + 1)) (of_count_value (n + 1) (omega (arith, w.small))))

  sum_finite : T (finite sum)
  sum_finite =
      finite_between low sum high (value_finite low (n + 8388608) low_value) (value_finite high (n + 1 + 8388608) high_value) low_le le_high

  -- the sum is 2 ^ 23 and n, or 2 ^ 23 and n + 1
  sum_whole : (v : ℕ) × HasValue sum false v 1
  sum_whole = whole_from low sum (n + 8388608) low_value (omega arith) sum_finite (add-fits binary32 a big) low_le

  from_low : n + 8388608 ≤ sum_whole.0
  from_low = leb→le _ _ (subst T (le_is low sum (n + 8388608) sum_whole.0 1 (zero-lt-suc 0) low_value sum_whole.1) low_le)

  upto_high : sum_whole.0 ≤ n + 1 + 8388608
  upto_high = leb→le _ _ (subst T (le_is sum high sum_whole.0 (n + 1 + 8388608) 1 (zero-lt-suc 0) sum_whole.1 high_value) le_high)

  near_value : HasValue near false (sum_whole.0 - 8388608) 1
  near_value =
      difference_value sum big sum_whole.0 8388608 (omega (arith, upto_high, w.small)) (omega (arith, from_low)) sum_whole.1 big_value

  -- ---- the comparison tells which of the two
  before : (x : Float) (k : ℕ) → HasValue x false k 1 → lt a x ≡ true → n < k
  before nan k v t = absurd v
  before (inf s) k v t = absurd v
  before (fin true m e) k v t = absurd (true≢false v.0)
  before (fin false m e) k v t = go (dec_le k n)
    where
      go : Dec (k ≤ n) → n < k
      go (no h) = omega arith
      go (yes h) =
          let none = ap (λ (z : ℕ). z * down e) w.above in
          let s : over a * down e + 0 * den a < m * up e * den a + under a * down e =
          lt→strict a (fin false m e) w.number tt (subst T (sym t) tt) in
          absurd
          (omega (arith, none, ap (λ (z : ℕ). z * den a) v.1, mul-le-mul_right (down e) w.from, mul-le-mul_right (den a * down e) h))

  after : (x : Float) (k : ℕ) → HasValue x false k 1 → lt a x ≡ false → k ≤ n
  after nan k v t = absurd v
  after (inf s) k v t = absurd v
  after (fin true m e) k v t = absurd (true≢false v.0)
  after (fin false m e) k v t = go (dec_le k n)
    where
      go : Dec (k ≤ n) → k ≤ n
      go (yes h) = h
      go (no h) =
          let none = ap (λ (z : ℕ). z * down e) w.above in
          let x = fin false m e in
          let s : m * up e * den a + under a * down e ≤ over a * down e + 0 * den a =
          le→cross x a tt w.number (not_lt→le a x (finite_no_nan a w.number) (finite_no_nan x tt) t) in
          let more : n + 1 ≤ k = omega arith in
          absurd
          (omega (arith, none, ap (λ (z : ℕ). z * den a) v.1, mul-lt-mul_of_pos_right w.upto (down_pos e), mul-le-mul_right (den a * down e) more))

  pub kept : lt a near ≡ false → HasValue near false n 1
  kept t =
      let k : sum_whole.0 - 8388608 ≡ n = omega (arith, from_low, after near (sum_whole.0 - 8388608) near_value t) in
      subst (λ (k : ℕ). HasValue near false k 1) k near_value

  pub lowered : lt a near ≡ true → HasValue (sub binary32 near one) false n 1
  lowered t =
      let k : sum_whole.0 - 8388608 - 1 ≡ n =
      omega (arith, upto_high, from_low, before near (sum_whole.0 - 8388608) near_value t) in
      subst (λ (k : ℕ). HasValue (sub binary32 near one) false k 1) k
      (difference_value near one (sum_whole.0 - 8388608) 1 (omega (arith, upto_high, w.small))
      (omega (arith, before near (sum_whole.0 - 8388608) near_value t)) near_value one_value)

-- ---- the cast of a whole number
pub cast_fits : (t : Float) (n : ℕ) → HasValue t false n 1 → n < 32768 → T (in_signed binary32 15 t)
unfolding in_signed whole
cast_fits nan n v h = absurd v
cast_fits (inf s) n v h = absurd v
cast_fits (fin true m e) n v h = absurd (true≢false v.0)
cast_fits (fin false m e) n v h =
    let p : m * up e ≡ n * down e = omega (arith, v.1) in
    let r : m * up e % down e ≡ 0 = ap (λ (z : ℕ). z % down e) p ∙ mul-mod_left n (down e) in
    let q : m * up e / down e ≡ n = ap (λ (z : ℕ). z / down e) p ∙ mul-div_cancel n (down_pos e) in
    let few : leb n (2 ^ prec binary32) ≡ true = le-leb n 16777216 (omega arith) in
    let small : ltb n (2 ^ 15) ≡ true = lt-ltb n 32768 h in
    rw (r, q, few, small) tt

pub cast_value : (t : Float) (n : ℕ) → HasValue t false n 1 → n < 32768 → to_signed 15 t ≡ pos n
cast_value nan n v h = absurd v
cast_value (inf s) n v h = absurd v
cast_value (fin true m e) n v h = absurd (true≢false v.0)
cast_value (fin false m e) n v h = to_signed_whole_lem 15 false m e n (omega (arith, v.1)) (omega (arith, v.1, down_pos e)) h

-- ---- the whole part of the size of x, and what x is cast to
pub record Parts (x : Float) (b : Bool) : Type 0 where
  pub part : ℕ
  pub whole_part : Whole part (cond b (neg x) x)
  pub cast : cast_i32 x ≡ cond b (neg_ℤ (pos part)) (pos part)

below_edge : (s : Bool) (m : ℕ) (e : ℤ) → Inside (fin s m e) → m * up e < 32768 * down e
unfolding of_bits neg
below_edge true m e i = let l = lt→strict (neg edge) (fin true m e) tt tt i.0 in omega arith
below_edge false m e i = let l = lt→strict (fin false m e) edge tt tt i.1 in omega arith

-- p / d is the whole part of the fraction
part_from : (p d : ℕ) → 0 < d → p / d * d ≤ p
part_from p d D = (le-div_iff_mul-le D).0 (le_refl (p / d))

part_upto : (p d : ℕ) → 0 < d → p < (p / d + 1) * d
part_upto p d D = (div-lt_iff_lt-mul {k = d} {x = p} {y = p / d + 1} D).0 (omega arith)

pub parts : (x : Float) (b : Bool) → Inside x → lt x (of_bits binary32 0) ≡ b → Parts x b
unfolding of_bits neg lt
parts nan b i t = absurd i.0
parts (inf true) b i t = absurd i.0
parts (inf false) b i t = absurd i.1
parts (fin true m e) true i t =
    let n = m * up e / down e in
    let small : n < 32768 = (div-lt_iff_lt-mul (down_pos e)).1 (below_edge true m e i) in
    let from = part_from (m * up e) (down e) (down_pos e) in
    let upto = part_upto (m * up e) (down e) (down_pos e) in
    record {
      part = n;
      whole_part = record { number = tt; above = refl; from = from; upto = upto; small = small };
      cast = to_signed_whole_lem 31 true m e n from upto (omega arith);
    }
parts (fin false m e) true i t =
    let l = lt→strict (fin false m e) (of_bits binary32 0) tt tt (subst T (sym t) tt) in
    absurd (omega arith)
parts (fin false m e) false i t =
    let n = m * up e / down e in
    let small : n < 32768 = (div-lt_iff_lt-mul (down_pos e)).1 (below_edge false m e i) in
    let from = part_from (m * up e) (down e) (down_pos e) in
    let upto = part_upto (m * up e) (down e) (down_pos e) in
    record {
      part = n;
      whole_part = record { number = tt; above = refl; from = from; upto = upto; small = small };
      cast = to_signed_whole_lem 31 false m e n from upto (omega arith);
    }
parts (fin true m e) false i t =
    let x = fin true m e in
    let zero = of_bits binary32 0 in
    let l = le→cross zero x tt tt (not_lt→le x zero (finite_no_nan x tt) (finite_no_nan zero tt) t) in
    let none : m * up e ≡ 0 = omega arith in
    let D = down_pos e in
    record {
      part = 0;
      whole_part = record { number = tt; above = none; from = omega arith; upto = omega (arith, D); small = omega arith };
      cast = to_signed_whole_lem 31 true m e 0 (omega arith) (omega (arith, D)) (omega arith);
    }
