-- One axis of the box of all items, from lo to hi, under the pair's premises: the value that the walk gives the query grows with the query, and the
-- value that the build gives a point from lo to hi is the walk's; so the two values are in the order of the floats. With a half extent of 2 ^ -100 or
-- more by the error of three roundings (Quantum), with a half extent of 0 because the inverse is +infinity, and a zero times that is a NaN, of value
-- 0.
use mathlib.Core.Path.{◌≡◌, refl, ap, ◌∙◌}
use mathlib.Core.Logic.{inl, inr}
use mathlib.Core.Bool.{true, false, not}
use Prim.Native.Nat.{ℕ, ◌*◌}
use native.Mathlib.Nat.{zero-mul, mul-pos}
use native.Mathlib.Omega.{arith}
use lib.Dec.{T, lit≤}
use lib.IntN.{ℤ, pos, negsuc}
use lib.Signed.{le_z}
use lib.Ieee.{Float, nan, inf, fin, binary32, up, down, add, sub, mul, div, neg, le, eq, is_nan, of_bits}
use lib.Ieee.Fits.{up_pos, down_pos}
use lib.Ieee.Scale.{finite}
use lib.Ieee.Positive.{positive}
use Rattle.base.proofs.NumberLaws.{no_factor}
use Rattle.float32.specs.Casts.{limit}
use Rattle.float32.specs.Signs.{abs_of}
use Rattle.float32.proofs.CastLaws.{truncated_of_in_lem}
use Rattle.float32.proofs.ExtremeLaws.{vmax_of_both_lem, vmax_of_ge_lem, vmax_of_least_lem}
use Rattle.float_laws.proofs.Monotone.{add_mono_both, add_no_nan, sub_mono, sub_anti, sub_no_nan, mul_mono}
use Rattle.float32.proofs.Order.{le→cross}
use Rattle.float32.proofs.OrderLaws.{le_trans, finite_no_nan, finite_between, eq→le, neg_le}
use Rattle.float32.proofs.Rounding.{round_zero}
use Rattle.float_laws.proofs.ScaledCasts.{truncated_of_scaled_lem, truncated_of_infinite_lem, node_is_truncated_infinite}
use Rattle.float32.proofs.SignLaws.{abs_no_nan, abs_bounds, abs_le}
use Rattle.math.specs.declared.axis.Axis.{Axis}
use Rattle.math.specs.declared.axis.Axis.TheVariants.{X, Y, Z}
use Rattle.math.specs.Axes.{coordinate, word_on}
use Rattle.math.specs.Transform.{half}
use Rattle.math.specs.Vec3s.{◌⊕◌, ◌⊖◌, ◌⊗◌, ◌⊘◌, one}
use Rattle.math.specs.declared.vec3.Vec3.{Vec3}
use Rattle.math.specs.declared.words3.Words3.{Words3}
use Rattle.records.specs.Axis.{centre, extent, quantum, inverse, unit_on, largest, nought, Measured}
use Rattle.records.specs.Quantise.{node_value, query_value, quantise_of, quantise_query_of}
use Rattle.records.specs.Scale.{scale_of_box}
use Rattle.records.proofs.Quantum.{inverse_positive, node_is_truncated, most}

-- ---- a half extent of 0: the inverse is +infinity
abbrev Clear : Float → Type 0
Clear nan = Unit {0}
Clear (inf s) = Unit {0}
Clear (fin true m e) = ⊥
Clear (fin false m e) = Unit {0}

abs_clear : (x : Float) → Clear (abs_of x)
unfolding abs_of
abs_clear nan = tt
abs_clear (inf s) = tt
abs_clear (fin s m e) = tt

extent_clear : (lo hi : Float) → Clear (extent lo hi)
extent_clear lo hi = vmax_of_both_lem Clear (abs_of (lo ⊖ centre lo hi)) (abs_of (hi ⊖ centre lo hi)) (abs_clear (lo ⊖ centre lo hi)) (abs_clear (hi ⊖ centre lo hi))

zero_quantum : (e : ℤ) → fin false 0 e ⊘ limit ≡ nought
unfolding div of_bits
zero_quantum e = rw zero-mul (round_zero binary32 false (32767 * 1 * down e) (mul-pos (lit≤ tt) (down_pos e)))

quantum_nought : (q : Float) → Clear q → T (eq q nought) → q ⊘ limit ≡ nought
quantum_nought nan c h = absurd (unfold eq in h)
quantum_nought (inf s) c h = absurd (unfold eq in h)
quantum_nought (fin true m e) c h = absurd c
quantum_nought (fin false m e) c h =
    let k = le→cross (fin false m e) nought tt tt (eq→le (fin false m e) nought h).0 in
    let z : m ≡ 0 = no_factor m (up e) (up_pos e) (omega arith) in
    ap (λ (n : ℕ). fin false n e ⊘ limit) z ∙ zero_quantum e

one_nought : one ⊘ nought ≡ inf false
unfolding div of_bits
one_nought = refl

inverse_infinite : (lo hi : Float) → T (eq (extent lo hi) nought) → inverse lo hi ≡ inf false
inverse_infinite lo hi h = ap (λ (z : Float). one ⊘ z) (quantum_nought (extent lo hi) (extent_clear lo hi) h) ∙ one_nought

-- ---- the centre is at most 2 ^ 100 in size, and the half extent at most 2 ^ 101
half_positive : T (positive half)
unfolding of_bits
half_positive = tt

module _ (lo hi : Float) (m : Measured lo hi) where
  low_in : T (le (neg largest) lo) × T (le lo largest)
  low_in = abs_bounds lo largest m.low_size

  high_in : T (le (neg largest) hi) × T (le hi largest)
  high_in = abs_bounds hi largest m.high_size

  sum_number : T (not (is_nan (lo ⊕ hi)))
  sum_number = add_no_nan binary32 lo hi (finite_no_nan lo m.low_finite) m.high_finite

  centre_above : T (le (neg largest) (centre lo hi))
  centre_above =
      le_trans (neg largest) ((neg largest ⊕ neg largest) ⊗ half) (centre lo hi) (unfold le add mul neg of_bits in tt)
      (mul_mono binary32 (neg largest ⊕ neg largest) (lo ⊕ hi) half half_positive
      (add_mono_both binary32 (neg largest) lo (neg largest) hi low_in.0 high_in.0 (unfold is_nan add neg in tt) sum_number))

  centre_below : T (le (centre lo hi) largest)
  centre_below =
      le_trans (centre lo hi) ((largest ⊕ largest) ⊗ half) largest
      (mul_mono binary32 (lo ⊕ hi) (largest ⊕ largest) half half_positive
      (add_mono_both binary32 lo largest hi largest low_in.1 high_in.1 sum_number (unfold is_nan add in tt)))
      (unfold le add mul of_bits in tt)

  pub centre_finite : T (finite (centre lo hi))
  centre_finite = finite_between (neg largest) (centre lo hi) largest (unfold neg in tt) tt centre_above centre_below

  -- the distance from the centre of what is at most 2 ^ 100 in size
  distance_most : (x : Float) → T (le (neg largest) x) → T (le x largest) → T (le (abs_of (x ⊖ centre lo hi)) most)
  distance_most x h k =
      let c = centre lo hi in
      abs_le (x ⊖ c) most
      (le_trans (neg most) (neg largest ⊖ largest) (x ⊖ c) (unfold le sub neg in tt)
      (le_trans (neg largest ⊖ largest) (neg largest ⊖ c) (x ⊖ c) (sub_anti binary32 (neg largest) c largest (unfold neg in tt) centre_below)
      (sub_mono binary32 (neg largest) x c centre_finite h)))
      (le_trans (x ⊖ c) (largest ⊖ neg largest) most
      (le_trans (x ⊖ c) (largest ⊖ c) (largest ⊖ neg largest) (sub_mono binary32 x largest c centre_finite k)
      (sub_anti binary32 largest (neg largest) c tt centre_above))
      (unfold le sub neg in tt))

  extent_most : T (le (extent lo hi) most)
  extent_most =
      vmax_of_least_lem (abs_of (lo ⊖ centre lo hi)) (abs_of (hi ⊖ centre lo hi)) most (distance_most lo low_in.0 low_in.1)
      (distance_most hi high_in.0 high_in.1)

  -- from lo to hi no distance from the centre exceeds the half extent
  distance_number : (x : Float) → T (finite x) → T (not (is_nan (x ⊖ centre lo hi)))
  distance_number x p = sub_no_nan binary32 x (centre lo hi) (finite_no_nan x p) centre_finite

  pub distance_in : (v : Float) → T (le lo v) → T (le v hi) → T (le (neg (extent lo hi)) (v ⊖ centre lo hi)) × T (le (v ⊖ centre lo hi) (extent lo hi))
  distance_in v h k =
      let c = centre lo hi in
      let q = extent lo hi in
      let nl = distance_number lo m.low_finite in
      let nh = distance_number hi m.high_finite in
      let g = vmax_of_ge_lem (abs_of (lo ⊖ c)) (abs_of (hi ⊖ c)) (abs_no_nan (lo ⊖ c) nl) (abs_no_nan (hi ⊖ c) nh) in (
        le_trans (neg q) (lo ⊖ c) (v ⊖ c) (abs_bounds (lo ⊖ c) q g.0).0 (sub_mono binary32 lo v c centre_finite h),
        le_trans (v ⊖ c) (hi ⊖ c) q (sub_mono binary32 v hi c centre_finite k) (abs_bounds (hi ⊖ c) q g.1).1,
      )

  -- ---- the walk's value grows with the query, the infinities included
  abbrev node : Float → ℤ
  node v = node_value (centre lo hi) (inverse lo hi) v

  abbrev query : Float → ℤ
  query v = query_value (centre lo hi) (inverse lo hi) v

  pub query_mono : (v w : Float) → T (le v w) → T (le_z (query v) (query w))
  query_mono v w h =
      let c = centre lo hi in
      let d = sub_mono binary32 v w c centre_finite h in
      elim m.extent_size [
        | inl z ↦ rw (inverse_infinite lo hi z) (truncated_of_infinite_lem binary32 (v ⊖ c) (w ⊖ c) d)
        | inr l ↦ truncated_of_scaled_lem binary32 (v ⊖ c) (w ⊖ c) (inverse lo hi) (inverse_positive (extent lo hi) l extent_most) d
      ]

  pub query_in : (w : Float) → T (le_z (negsuc 32766) (query w)) × T (le_z (query w) (pos 32767))
  query_in w = truncated_of_in_lem ((w ⊖ centre lo hi) ⊗ inverse lo hi)

  -- ---- from lo to hi the build's value is the walk's
  pub node_is_query : (v : Float) → T (le lo v) → T (le v hi) → node v ≡ query v
  unfolding neg
  node_is_query v h k =
      let d = v ⊖ centre lo hi in
      let i = distance_in v h k in
      elim m.extent_size [
        | inl z ↦
            let e = eq→le (extent lo hi) nought z in
            rw (inverse_infinite lo hi z) (
            node_is_truncated_infinite binary32 d
            (le_trans (neg nought) (neg (extent lo hi)) d (neg_le (extent lo hi) nought e.0) i.0)
            (le_trans d (extent lo hi) nought i.1 e.0)
            )
        | inr l ↦ node_is_truncated (extent lo hi) l extent_most d i.0 i.1
      ]

  pub node_in : (v : Float) → T (le lo v) → T (le v hi) → T (le_z (negsuc 32766) (node v)) × T (le_z (node v) (pos 32767))
  node_in v h k = rw (node_is_query v h k) (query_in v)

  -- ---- so values are ordered as the floats are
  pub item_below : (v w : Float) → T (le lo v) → T (le v hi) → T (le v w) → T (le_z (node v) (query w))
  item_below v w h k l = rw (node_is_query v h k) (query_mono v w l)

  pub item_above : (v w : Float) → T (le lo v) → T (le v hi) → T (le w v) → T (le_z (query w) (node v))
  item_above v w h k l = rw (node_is_query v h k) (query_mono w v l)

  pub node_mono : (v w : Float) → T (le lo v) → T (le v hi) → T (le lo w) → T (le w hi) → T (le v w) → T (le_z (node v) (node w))
  node_mono v w h k h' k' l = rw (node_is_query v h k, node_is_query w h' k') (query_mono v w l)

-- ---- the axes of a box in words, and of a quantised point
abbrev pub value : Axis → Words3 → Float
value a w = of_bits binary32 (word_on a w)

pub scale_centre : (a : Axis) (min max : Words3) → coordinate a (scale_of_box min max).cen ≡ centre (value a min) (value a max)
unfolding scale_of_box
scale_centre X min max = refl
scale_centre Y min max = refl
scale_centre Z min max = refl

pub scale_quantum : (a : Axis) (min max : Words3) → coordinate a (scale_of_box min max).quantum ≡ quantum (value a min) (value a max)
unfolding scale_of_box
scale_quantum X min max = refl
scale_quantum Y min max = refl
scale_quantum Z min max = refl

pub scale_inverse : (a : Axis) (min max : Words3) → coordinate a (scale_of_box min max).inverse ≡ inverse (value a min) (value a max)
unfolding scale_of_box
scale_inverse X min max = refl
scale_inverse Y min max = refl
scale_inverse Z min max = refl

pub quantised_on : (a : Axis) (v : Words3) (cen inv : Vec3) → unit_on a (quantise_of v cen inv) ≡ node_value (coordinate a cen) (coordinate a inv) (value a v)
unfolding quantise_of
quantised_on X v cen inv = refl
quantised_on Y v cen inv = refl
quantised_on Z v cen inv = refl

pub query_on : (a : Axis) (v cen inv : Vec3) → unit_on a (quantise_query_of v cen inv) ≡ query_value (coordinate a cen) (coordinate a inv) (coordinate a v)
unfolding quantise_query_of
query_on X v cen inv = refl
query_on Y v cen inv = refl
query_on Z v cen inv = refl

-- ---- the laws on an axis of the box of all items, with the units that the build makes of it
module _ (a : Axis) (min max : Words3) where
  -- the build's value of a stored point, and the walk's of a corner of the query
  abbrev pub built : Words3 → ℤ
  built v = unit_on a (quantise_of v (scale_of_box min max).cen (scale_of_box min max).inverse)

  abbrev pub asked : Vec3 → ℤ
  asked w = unit_on a (quantise_query_of w (scale_of_box min max).cen (scale_of_box min max).inverse)

  built_is : (v : Words3) → built v ≡ node_value (centre (value a min) (value a max)) (inverse (value a min) (value a max)) (value a v)
  built_is v = quantised_on a v (scale_of_box min max).cen (scale_of_box min max).inverse ∙ rw (scale_centre a min max, scale_inverse a min max)

  asked_is : (w : Vec3) → asked w ≡ query_value (centre (value a min) (value a max)) (inverse (value a min) (value a max)) (coordinate a w)
  asked_is w = query_on a w (scale_of_box min max).cen (scale_of_box min max).inverse ∙ rw (scale_centre a min max, scale_inverse a min max)

  pub asked_in : (w : Vec3) → T (le_z (negsuc 32766) (asked w)) × T (le_z (asked w) (pos 32767))
  asked_in w = rw (query_on a w (scale_of_box min max).cen (scale_of_box min max).inverse) (truncated_of_in_lem _)

  -- a stored point within the box, on the axis
  abbrev pub Inside : Words3 → Type 0
  Inside v = T (le (value a min) (value a v)) × T (le (value a v) (value a max))

  module _ (m : Measured (value a min) (value a max)) where
    pub built_below : (v : Words3) (w : Vec3) → Inside v → T (le (value a v) (coordinate a w)) → T (le_z (built v) (asked w))
    built_below v w i h = rw (built_is v, asked_is w) (item_below (value a min) (value a max) m (value a v) (coordinate a w) i.0 i.1 h)

    pub built_above : (v : Words3) (w : Vec3) → Inside v → T (le (coordinate a w) (value a v)) → T (le_z (asked w) (built v))
    built_above v w i h = rw (built_is v, asked_is w) (item_above (value a min) (value a max) m (value a v) (coordinate a w) i.0 i.1 h)

    pub built_mono : (v w : Words3) → Inside v → Inside w → T (le (value a v) (value a w)) → T (le_z (built v) (built w))
    built_mono v w i j h = rw (built_is v, built_is w) (node_mono (value a min) (value a max) m (value a v) (value a w) i.0 i.1 j.0 j.1 h)

    pub built_in : (v : Words3) → Inside v → T (le_z (negsuc 32766) (built v)) × T (le_z (built v) (pos 32767))
    built_in v i = rw (built_is v) (node_in (value a min) (value a max) m (value a v) i.0 i.1)

    pub asked_mono : (v w : Vec3) → T (le (coordinate a v) (coordinate a w)) → T (le_z (asked v) (asked w))
    asked_mono v w h = rw (asked_is v, asked_is w) (query_mono (value a min) (value a max) m (coordinate a v) (coordinate a w) h)
