-- The quantum of a half extent q from 2 ^ -100 to 2 ^ 101 and its inverse, each rounded: what is at most q in size is
-- scaled to less than 32768, by the error of each rounding. So there the node value does not wrap, and is the truncated value.
use mathlib.Core.Path.{◌≡◌}
use mathlib.Core.Bool.{false}
use Prim.Native.Nat.{ℕ, ◌+◌, ◌*◌, ◌≤◌, ◌<◌}
use native.Mathlib.Nat.{mul-pos, mul-le-mul_right, le_of_mul-le-mul_right}
use native.Mathlib.Omega.{arith}
use lib.Dec.{T, lit≤}
use lib.IntN.{ℤ, pos, negsuc}
use lib.Ieee.{Float, fin, binary32, neg, div, lt, le, fits, of_bits}
use lib.Ieee.Positive.{num, den, den_pos, positive, positive-finite, between, le→cross}
use Rattle.float32.specs.Casts.{limit, short_of, truncated_of}
use Rattle.float32.proofs.Order.{num_pos, positive_over, positive_under}
use Rattle.float32.proofs.OrderLaws.{le_trans, le_lt_trans, neg_neg, neg_le, neg_lt}
use Rattle.float32.proofs.Rounding.{Rounded, rounded_mono, div_rounded, mul_rounded, mul_neg}
use Rattle.float32.proofs.Exactness.{self_rounded}
use Rattle.float_laws.proofs.RoundError.{Relative, div_relative}
use Rattle.float_laws.proofs.Monotone.{div_mono, mul_mono}
use Rattle.float32.proofs.CastLaws.{edge, short_of_is_truncated_of_lem}
use Rattle.math.specs.Vec3s.{◌⊗◌, one}
use Rattle.records.specs.Axis.{quantum_of, inverse_of, smallest}

-- ---- U / D is (a / c) / 32767 and I / J is D / U, each up to 2 ^ -24 of it: then (a / c) * (I / J) is at most 32767.5
three : (a c U D I J : ℕ) → 0 < D
    → 16777216 * (a * 1 * D) ≤ 16777216 * (U * (32767 * c)) + a * 1 * D
    → 16777216 * (I * (U * 1)) ≤ 16777216 * (1 * D * J) + 1 * D * J
    → 2 * (a * I) ≤ 65535 * (c * J)
three a c U D I J P h k =
    let h' = mul-le-mul_right I h in
    let k' = mul-le-mul_right (32767 * c) k in
    let e : (16777216 * (a * I)) * D ≤ (16777216 * (32767 * (c * J)) + 32767 * (c * J) + a * I) * D = omega arith in
    let e' = le_of_mul-le-mul_right e P in
    omega arith

-- ---- the quantum and its inverse, rounded
-- 2 ^ e
abbrev power : ℤ → Float
power e = fin false 1 e

-- the most that q may be: 2 ^ 101
abbrev pub most : Float
most = power (pos 101)

-- 32767.5
abbrev top : Float
top = fin false 65535 (negsuc 0)

limit_positive : T (positive limit)
unfolding of_bits
limit_positive = tt

-- 2 ^ -120 ≤ q / 32767 ≤ 2 ^ 100
quantum_low : (q : Float) → T (le smallest q) → T (le (power (negsuc 119)) (quantum_of q))
quantum_low q h =
    le_trans (power (negsuc 119)) (quantum_of smallest) (quantum_of q) (unfold le div of_bits in tt)
    (div_mono binary32 smallest q limit limit_positive h)

quantum_high : (q : Float) → T (le q most) → T (le (quantum_of q) (power (pos 100)))
quantum_high q h =
    le_trans (quantum_of q) (quantum_of most) (power (pos 100)) (div_mono binary32 q most limit limit_positive h)
    (unfold le div of_bits in tt)

module _ (q : Float) (L : T (le smallest q)) (H : T (le q most)) where
  q_positive : T (positive q)
  q_positive = between smallest q most tt tt L H

  quantum_positive : T (positive (quantum_of q))
  quantum_positive = between (power (negsuc 119)) (quantum_of q) (power (pos 100)) tt tt (quantum_low q L) (quantum_high q H)

  inverse_rounded : Rounded binary32 (inverse_of q) (1 * den (quantum_of q)) (0 * den (quantum_of q)) (num (quantum_of q) * 1)
  unfolding of_bits
  inverse_rounded = div_rounded binary32 one (quantum_of q) tt quantum_positive

  quantum_num : 0 < num (quantum_of q) * 1
  quantum_num = mul-pos (num_pos (quantum_of q) quantum_positive) (lit≤ tt)

  inverse_low : T (le smallest (inverse_of q))
  inverse_low =
      let k = le→cross (quantum_of q) (power (pos 100)) quantum_positive tt (quantum_high q H) in
      rounded_mono (den_pos smallest) quantum_num (self_rounded binary32 smallest tt (unfold fits in tt)) inverse_rounded (omega arith)

  inverse_high : T (le (inverse_of q) (power (pos 120)))
  inverse_high =
      let k = le→cross (power (negsuc 119)) (quantum_of q) tt quantum_positive (quantum_low q L) in
      rounded_mono quantum_num (den_pos (power (pos 120))) inverse_rounded
      (self_rounded binary32 (power (pos 120)) tt (unfold fits in tt)) (omega arith)

  pub inverse_positive : T (positive (inverse_of q))
  inverse_positive = between smallest (inverse_of q) (power (pos 120)) tt tt inverse_low inverse_high

  quantum_error : Relative 24 (quantum_of q) (num q * 1) (32767 * den q)
  unfolding of_bits
  quantum_error =
      let k = le→cross smallest q tt q_positive L in
      div_relative binary32 q limit (positive-finite q q_positive) tt (omega arith) (positive-finite (quantum_of q) quantum_positive)

  inverse_error : Relative 24 (inverse_of q) (1 * den (quantum_of q)) (num (quantum_of q) * 1)
  unfolding of_bits
  inverse_error =
      let k = le→cross (quantum_of q) (power (pos 100)) quantum_positive tt (quantum_high q H) in
      div_relative binary32 one (quantum_of q) tt quantum_positive (omega arith) (positive-finite (inverse_of q) inverse_positive)

  product : 2 * (num q * num (inverse_of q)) ≤ 65535 * (den q * den (inverse_of q))
  product =
      three (num q) (den q) (num (quantum_of q)) (den (quantum_of q)) (num (inverse_of q)) (den (inverse_of q))
      (den_pos (quantum_of q)) quantum_error.1 inverse_error.0

  -- 32767.5 is a value, so the third rounding does not pass it
  top_scaled : T (le (q ⊗ inverse_of q) top)
  top_scaled =
      let i = inverse_of q in
      let k = product in
      rounded_mono (mul-pos (den_pos q) (den_pos i)) (den_pos top)
      (mul_rounded binary32 q i (positive-finite q q_positive) (positive-finite i inverse_positive))
      (self_rounded binary32 top tt (unfold fits in tt))
      (rw (positive_over q q_positive, positive_over i inverse_positive, positive_under q q_positive, positive_under i inverse_positive) (omega arith))

  scaled_below : (d : Float) → T (le d q) → T (lt (d ⊗ inverse_of q) edge)
  scaled_below d h =
      le_lt_trans (d ⊗ inverse_of q) (q ⊗ inverse_of q) edge (mul_mono binary32 d q (inverse_of q) inverse_positive h)
      (le_lt_trans (q ⊗ inverse_of q) top edge top_scaled (unfold lt of_bits in tt))

  scaled_above : (d : Float) → T (le (neg q) d) → T (lt (neg edge) (d ⊗ inverse_of q))
  scaled_above d h =
      let m = d ⊗ inverse_of q in
      let up = rw (neg_neg q) at (neg_le (neg q) d h) in
      let k : T (lt (neg m) edge) = rw (mul_neg binary32 d (inverse_of q)) at (scaled_below (neg d) up) in
      rw (neg_neg m) at (neg_lt (neg m) edge k)

  -- So the build's node value is the value that the walk gives the query.
  pub node_is_truncated : (d : Float) → T (le (neg q) d) → T (le d q) → short_of (d ⊗ inverse_of q) ≡ truncated_of (d ⊗ inverse_of q)
  node_is_truncated d h k = short_of_is_truncated_of_lem (d ⊗ inverse_of q) (scaled_above d h) (scaled_below d k)
