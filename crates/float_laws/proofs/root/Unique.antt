-- Only one function is the square root of IEEE 754: a second value that is as near as what `root` gives is its neighbour, whose last digit is odd.
use mathlib.Core.Path.{◌≡◌, refl, sym, ap, ◌∙◌, subst}
use mathlib.Core.Logic.{◌⊎◌, inl, inr}
use mathlib.Core.Bool.{Bool, true, false, true≢false}
use Prim.Native.Nat.{ℕ, zero, suc, ◌+◌, ◌*◌, ◌%◌, ◌^◌, ◌≤◌, ◌<◌}
use native.Mathlib.Nat.{le_trans, le_of_eq, le_antisymm, add_comm, mul_comm, eq_of_mul-eq-mul_right, zero-lt-suc}
use native.Mathlib.Decide.{dec_le}
use native.Mathlib.Omega.{arith}
use lib.Dec.{T, eqb→eq}
use lib.IntN.{ℤ, pos, negsuc}
use lib.Pow.{pow_pos}
use lib.Ieee.{Float, nan, inf, fin, Format, binary32, binary64, prec, low, hid, up, down, lt, fits, to_bits}
use lib.Ieee.Fits.{down_pos}
use lib.Ieee.Exact.{HasValue}
use lib.Ieee.Positive.{num, den}
use Rattle.float32.specs.SquareRoot.{root, sqrt_of}
use Rattle.float_laws.specs.RootStandard.{sum_squared, four_times, NoNearer, AsNear, Rounded, SquareRoot}
use Rattle.float32.proofs.root.Written.{Leads, written, same_value}
use Rattle.float_laws.proofs.root.Grid.{OnGrid, on_grid}
use Rattle.float_laws.proofs.root.Standard.{Found, found, rounded, tied, beside_of, less_lt, positive_root, square_root}

-- ---- of two values above zero neither is nearer to √x than the other
module _ (x : Float) (a : ℕ) (b : ℤ) (a' : ℕ) (b' : ℤ) (i : NoNearer x (fin false a b) (fin false a' b'))
    (j : NoNearer x (fin false a' b') (fin false a b)) where
  sums : sum_squared x (fin false a b) (fin false a' b') ≡ sum_squared x (fin false a' b') (fin false a b)
  sums = ap (λ (z : ℕ). z * z * den x) (add_comm (a * up b * down b') (a' * up b' * down b))

  fours : four_times x (fin false a b) (fin false a' b') ≡ four_times x (fin false a' b') (fin false a b)
  fours = ap (λ (z : ℕ). 4 * num x * (z * z)) (mul_comm (down b) (down b'))

  as_near_below : T (lt (fin false a' b') (fin false a b)) → AsNear x (fin false a b) (fin false a' b')
  as_near_below t = le_antisymm (i.0 t) (le_trans (le_of_eq fours) (le_trans (j.1 t) (le_of_eq (sym sums))))

  as_near_above : T (lt (fin false a b) (fin false a' b')) → AsNear x (fin false a b) (fin false a' b')
  as_near_above t = le_antisymm (le_trans (le_of_eq sums) (le_trans (j.0 t) (le_of_eq (sym fours)))) (i.1 t)

  turned : AsNear x (fin false a b) (fin false a' b') → AsNear x (fin false a' b') (fin false a b)
  turned t = sym sums ∙ t ∙ fours

-- ---- the neighbours' last digits
odd_sum : (f : Format) (k q : ℕ) → (k * hid f + q) % 2 ≡ 0 → q % 2 ≡ 0
odd_sum binary32 k q e = omega arith
odd_sum binary64 k q e = omega arith

room : (f : Format) (q : ℕ) → q < 2 ^ prec f → q % 2 ≡ 0 → q + 1 < 2 ^ prec f
room binary32 q h e = omega arith
room binary64 q h e = omega arith

leads_more : (f : Format) (q k : ℕ) → Leads f q k → Leads f (q + 1) k
leads_more f q k (inl z) = inl z
leads_more f q k (inr h) = inr (omega arith)

-- Where Q, one of q and q + 1, is even, the other has an odd pattern.
pub odd_neighbour : (f : Format) (q k Q : ℕ) (r : Float) (Y : ℕ) → q < 2 ^ prec f → Leads f q k → Q % 2 ≡ 0 → to_bits f r % 2 ≡ 0
    → HasValue r false Y (2 ^ low f)
    → ((Q * 2 ^ k ≡ q * 2 ^ k) × (Y ≡ (q + 1) * 2 ^ k)) ⊎ ((Q * 2 ^ k ≡ (q + 1) * 2 ^ k) × (Y ≡ q * 2 ^ k)) → ⊥
odd_neighbour f q k Q r Y hi l e o h (inl p) =
    let same : Q ≡ q = eq_of_mul-eq-mul_right (2 ^ k) (pow_pos k) Q q p.0 in
    let q-even : q % 2 ≡ 0 = omega arith in
    let h' = subst (λ (z : ℕ). HasValue r false z (2 ^ low f)) p.1 h in
    omega (arith, odd_sum f k (q + 1) (sym (ap (λ (b : ℕ). b % 2) (written f r (q + 1) k (room f q hi q-even) (leads_more f q k l) h')) ∙ o))
odd_neighbour f q k Q r Y hi l e o h (inr p) =
    let same : Q ≡ q + 1 = eq_of_mul-eq-mul_right (2 ^ k) (pow_pos k) Q (q + 1) p.0 in
    let h' = subst (λ (z : ℕ). HasValue r false z (2 ^ low f)) p.1 h in
    omega (arith, odd_sum f k q (sym (ap (λ (b : ℕ). b % 2) (written f r q k hi l h')) ∙ o))

-- ---- so a second rounded root is the first
module _ (f : Format) (m : ℕ) (e : ℤ) (a : ℕ) (b : ℤ) (a' : ℕ) (b' : ℤ) (i : Found f m e (fin false a b))
    (j : Rounded f (fin false m e) (fin false a' b')) where
  abbrev x : Float
  x = fin false m e

  abbrev v : Float
  v = fin false a b

  abbrev r : Float
  r = fin false a' b'

  abbrev R : ℕ
  R = i.choice.Q * 2 ^ i.choice.k

  y : OnGrid f a' b'
  y = on_grid f false a' b' j.held

  no_nearer : NoNearer x v r
  no_nearer = (rounded f m e v i).nearest r j.held tt

  none_nearer : NoNearer x r v
  none_nearer = j.nearest v i.held tt

  clash : (a' * 2 ^ y.j ≡ R → ⊥) → AsNear x v r → ⊥
  clash differ t =
      let c = i.choice in
      let other : r ≡ v → ⊥ =
      λ z. differ (eq_of_mul-eq-mul_right (down b') (down_pos b') (a' * 2 ^ y.j) R
      (sym y.same ∙ (subst (λ (u : Float). HasValue u false R (2 ^ low f)) (sym z) i.value).1)) in
      odd_neighbour f c.q c.k c.Q r (a' * 2 ^ y.j) c.digits c.leads
      (tied f m e v c i.some v r i.held i.value j.held tt other t)
      (j.even v i.held tt (λ z. other (sym z)) (turned x a b a' b' no_nearer none_nearer t))
      (refl, y.same)
      ((beside_of f m e v c i.some a b a' b' i.value.1 y).neighbour differ t)

  one_root : r ≡ v
  one_root = either (dec_le (a' * 2 ^ y.j) R) (dec_le R (a' * 2 ^ y.j))
    where
      either : Dec (a' * 2 ^ y.j ≤ R) → Dec (R ≤ a' * 2 ^ y.j) → r ≡ v
      either (yes p) (yes q) =
          same_value f false r v R j.held i.held (refl, subst (λ (z : ℕ). a' * up b' * 2 ^ low f ≡ z * down b') (le_antisymm p q) y.same) i.value
      either (yes p) (no q) =
          absurd (clash (omega arith) (as_near_below x a b a' b' no_nearer none_nearer
          (less_lt a' b' a b ((beside_of f m e v i.choice i.some a b a' b' i.value.1 y).more_back (omega arith)))))
      either (no p) q =
          absurd (clash (omega arith) (as_near_above x a b a' b' no_nearer none_nearer
          (less_lt a b a' b' ((beside_of f m e v i.choice i.some a b a' b' i.value.1 y).less_back (omega arith)))))

pub unique : (f : Format) (m : ℕ) (e : ℤ) (v r : Float) → Found f m e v → Rounded f (fin false m e) r → r ≡ v
unique f m e nan r i j = absurd i.value
unique f m e (inf s) r i j = absurd i.value
unique f m e (fin true a b) r i j = absurd (true≢false i.value.0)
unique f m e (fin false a b) nan i j = absurd j.above_zero
unique f m e (fin false a b) (inf s) i j = absurd j.above_zero
unique f m e (fin false a b) (fin true a' b') i j = absurd j.above_zero
unique f m e (fin false a b) (fin false a' b') i j = one_root f m e a b a' b' i j

-- A zero that fits has no exponent.
zero_exponent : (f : Format) (s : Bool) (e : ℤ) → T (fits f (fin s 0 e)) → e ≡ pos 0
unfolding fits
zero_exponent f s (pos zero) h = refl
zero_exponent f s (pos (suc k)) h = absurd (omega (arith, eqb→eq (2 ^ suc k * 1) 1 h, pow_pos k))
zero_exponent f s (negsuc k) h = absurd (omega (arith, eqb→eq (1 * 2 ^ suc k) 1 h, pow_pos k))

-- Whatever is the square root by the standard's statement is `sqrt_of`, on every value of the format.
pub only : (f : Format) (g : Float → Float) → SquareRoot f g → (x : Float) → T (fits f x) → g x ≡ sqrt_of f x
only f g i nan h = i.of_nan ∙ sym (square_root f).of_nan
only f g i (inf true) h = i.of_minus_infinity ∙ sym (square_root f).of_minus_infinity
only f g i (inf false) h = i.of_infinity ∙ sym (square_root f).of_infinity
only f g i (fin s zero e) h =
    subst (λ (e : ℤ). g (fin s 0 e) ≡ sqrt_of f (fin s 0 e)) (sym (zero_exponent f s e h)) (i.of_zero s ∙ sym ((square_root f).of_zero s))
only f g i (fin true (suc m) e) h = i.of_negative (suc m) e (zero-lt-suc m) ∙ sym ((square_root f).of_negative (suc m) e (zero-lt-suc m))
only f g i (fin false (suc m) e) h =
    unique f (suc m) e (root f (suc m * up e) (down e)) (g (fin false (suc m) e)) (found f (suc m) e (zero-lt-suc m) h)
    (i.of_positive (suc m) e (zero-lt-suc m) h)
    ∙ sym (positive_root f (suc m) e (zero-lt-suc m))
