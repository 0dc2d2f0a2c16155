-- `sqrt_of` is the square root of IEEE 754, in either format: what it gives is no farther from √x than its neighbour (`Chosen`, `Neighbours`), and no
-- number of the format lies between the two (`Grid`).
use mathlib.Core.Path.{◌≡◌, refl, sym, ap, ◌∙◌, subst}
use mathlib.Core.Bool.{Bool, true, false, cond, true≢false}
use Prim.Native.Nat.{ℕ, suc, ◌+◌, ◌*◌, ◌%◌, ◌^◌, ◌≤◌, ◌<◌}
use native.Mathlib.Nat.{le_trans, le_of_eq, lt_of_not-le, add_comm, one-mul, mul-le-mul, mul-le-mul_right, mul-lt-mul_of_pos_right, mul-pos}
use native.Mathlib.Omega.{arith}
use lib.Dec.{T, ltb→lt, lt→ltb, lit≤}
use lib.IntN.{ℤ}
use lib.Pow.{pow_pos}
use lib.Ieee.{Float, nan, inf, fin, Format, binary32, binary64, emax, low, up, down, lt, fits}
use lib.Ieee.Fits.{up_pos, down_pos}
use lib.Ieee.Exact.{HasValue, units_val}
use lib.Ieee.Positive.{positive_of_value}
use lib.Ieee.Scale.{finite}
use borrow.Author.Tests.{ne_eqb}
use Rattle.float32.specs.SquareRoot.{root, sqrt_of}
use Rattle.float_laws.specs.RootStandard.{NoNearer, AsNear, Rounded, SquareRoot}
use Rattle.float32.proofs.root.WholeRoot.{two_four}
use Rattle.float32.proofs.root.Written.{same_value, units_fits, even_pattern}
use Rattle.float32.proofs.root.Kept.{four, four_pos, square_pow}
use Rattle.float_laws.proofs.root.Neighbours.{Between}
use Rattle.float_laws.proofs.root.Grid.{OnGrid, fitting, on_grid, gap}
use Rattle.float_laws.proofs.root.Fractions.{Beside, beside, square_le}
use Rattle.float_laws.proofs.root.Chosen.{Chosen, chosen, between, even, chosen_le, chosen_leads, chosen_pos}

-- ---- no root overflows
four_le : (f : Format) → 4 ≤ 2 ^ suc (emax f)
four_le binary32 = lit≤ tt
four_le binary64 = lit≤ tt

in_range : (f : Format) (a d R : ℕ) → a < 2 ^ suc (emax f) * d → R * R * d ≤ 4 * (a * 4 ^ low f) → R < 2 ^ (low f + suc (emax f))
in_range f a d R x h =
    lt_of_not-le (λ (g : 2 ^ (low f + suc (emax f)) ≤ R).
    no (4 ^ low f) (2 ^ suc (emax f)) (four_pos (low f)) (four_le f) x
    (le_trans (le_of_eq (ap (λ (z : ℕ). z * d) (sym square))) (le_trans (mul-le-mul_right d (mul-le-mul g g)) h)))
  where
    square : 2 ^ (low f + suc (emax f)) * 2 ^ (low f + suc (emax f)) ≡ 2 ^ suc (emax f) * 2 ^ suc (emax f) * 4 ^ low f
    square = ap (λ (z : ℕ). 2 ^ z * 2 ^ z) (add_comm (low f) (suc (emax f))) ∙ square_pow (suc (emax f)) (low f)

    no : (p t : ℕ) → 0 < p → 4 ≤ t → a < t * d → t * t * p * d ≤ 4 * (a * p) → ⊥
    no p t P F x l = omega (arith, mul-lt-mul_of_pos_right x P, mul-le-mul_right (t * d * p) F)

-- ---- `lt` of values that are not both above zero, and of two that are
lt_minus : (a : ℕ) (b : ℤ) (a' : ℕ) (b' : ℤ) → T (lt (fin false a b) (fin true a' b')) → ⊥
unfolding lt
lt_minus a b a' b' t = t

pub lt_less : (a : ℕ) (b : ℤ) (a' : ℕ) (b' : ℤ) → T (lt (fin false a b) (fin false a' b')) → a * up b * down b' < a' * up b' * down b
unfolding lt
lt_less a b a' b' t = ltb→lt (a * up b * down b') (a' * up b' * down b) t

pub less_lt : (a : ℕ) (b : ℤ) (a' : ℕ) (b' : ℤ) → a * up b * down b' < a' * up b' * down b → T (lt (fin false a b) (fin false a' b'))
unfolding lt
less_lt a b a' b' h = lt→ltb (a * up b * down b') (a' * up b' * down b) h

-- ---- what was chosen, R smallest values, beside a number of the format
module _ (f : Format) (m : ℕ) (e : ℤ) (v : Float) (c : Chosen f (m * up e * 4 ^ low f) (down e) v) (some : 0 < c.Q) where
  abbrev n : ℕ
  n = m * up e * 4 ^ low f

  abbrev L : ℕ
  L = c.q * 2 ^ c.k

  abbrev H : ℕ
  H = (c.q + 1) * 2 ^ c.k

  abbrev R : ℕ
  R = c.Q * 2 ^ c.k

  R_pos : 0 < R
  R_pos = mul-pos some (pow_pos c.k)

  in_squares : n ≡ m * up e * (2 ^ low f * 2 ^ low f)
  in_squares = ap (λ (z : ℕ). m * up e * z) (four (low f))

  next : Between n (down e) L H R
  next = between f n (down e) v (down_pos e) c

  root_le : R * R * down e ≤ 4 * n
  root_le = square_le (m * up e) (down e) n (2 ^ low f) L H R (pow_pos (low f)) in_squares next R_pos

  pub beside_of : (a : ℕ) (b : ℤ) (a' : ℕ) (b' : ℤ) → a * up b * 2 ^ low f ≡ R * down b → (y : OnGrid f a' b')
      → Beside (m * up e) (down e) n L H R (a * up b) (down b) (a' * up b') (down b') (a' * 2 ^ y.j)
  beside_of a b a' b' r y =
      beside (m * up e) (down e) n (2 ^ low f) L H R (pow_pos (low f)) in_squares next R_pos (a * up b) (down b) (a' * up b') (down b') (a' * 2 ^ y.j)
      (mul-pos (down_pos b) (down_pos b')) r y.same (gap f a' y.j c.q c.k y.digits c.leads)

  near : (r y : Float) → HasValue r false R (2 ^ low f) → T (fits f y) → T (finite y) → NoNearer (fin false m e) r y
  near nan y h i g = absurd h
  near (inf s) y h i g = absurd h
  near (fin true a b) y h i g = absurd (true≢false h.0)
  near (fin false a b) nan h i g = absurd g
  near (fin false a b) (inf s) h i g = absurd g
  near (fin false a b) (fin true a' b') h i g = (λ t. (beside_of a b a' b' h.1 (on_grid f true a' b' i)).near_negative, λ t. absurd (lt_minus a b a' b' t))
  near (fin false a b) (fin false a' b') h i g =
      let s = beside_of a b a' b' h.1 (on_grid f false a' b' i) in
      (λ t. s.near_below (lt_less a' b' a b t), λ t. s.near_above (lt_less a b a' b' t))

  pub tied : (r y : Float) → T (fits f r) → HasValue r false R (2 ^ low f) → T (fits f y) → T (finite y) → (y ≡ r → ⊥)
      → AsNear (fin false m e) r y → c.Q % 2 ≡ 0
  tied nan y j h i g other t = absurd h
  tied (inf s) y j h i g other t = absurd h
  tied (fin true a b) y j h i g other t = absurd (true≢false h.0)
  tied (fin false a b) nan j h i g other t = absurd g
  tied (fin false a b) (inf s) j h i g other t = absurd g
  tied (fin false a b) (fin true a' b') j h i g other t =
      even f n (down e) v (down_pos e) c ((beside_of a b a' b' h.1 (on_grid f true a' b' i)).tied_negative t)
  tied (fin false a b) (fin false a' b') j h i g other t =
      let y = on_grid f false a' b' i in
      let differ : a' * 2 ^ y.j ≡ R → ⊥ =
      λ z. other (same_value f false (fin false a' b') (fin false a b) R i j (refl, subst (λ (x : ℕ). a' * up b' * 2 ^ low f ≡ x * down b') z y.same) h) in
      even f n (down e) v (down_pos e) c ((beside_of a b a' b' h.1 y).tied differ t)

-- ---- what `root` gives for an x above zero
pub record Found (f : Format) (m : ℕ) (e : ℤ) (v : Float) : Type 0 where
  pub choice : Chosen f (m * up e * 4 ^ low f) (down e) v
  pub some : 0 < choice.Q
  pub held : T (fits f v)
  pub value : HasValue v false (choice.Q * 2 ^ choice.k) (2 ^ low f)

pub found : (f : Format) (m : ℕ) (e : ℤ) → 0 < m → T (fits f (fin false m e)) → Found f m e (root f (m * up e) (down e))
found f m e M i =
    let n = m * up e * 4 ^ low f in
    let d = down e in
    let v = root f (m * up e) d in
    let c = chosen f (m * up e) d (down_pos e) in
    let x = fitting f false m e M i in
    let one : 1 * 4 ^ low f ≤ n = mul-le-mul_right (4 ^ low f) (mul-pos M (up_pos e)) in
    let some = chosen_pos f n d v (down_pos e) c (le_trans x.place (le_trans (two_four (low f)) (le_trans (le_of_eq (sym (one-mul (4 ^ low f)))) one))) in
    let fine = in_range f (m * up e) d (c.Q * 2 ^ c.k) x.range (root_le f m e v c some) in
    record {
      choice = c;
      some = some;
      held = subst (λ (r : Float). T (fits f r)) (sym c.is) (units_fits f c.Q c.k (chosen_le f n d v (down_pos e) c) fine);
      value = subst (λ (r : Float). HasValue r false (c.Q * 2 ^ c.k) (2 ^ low f)) (sym c.is) (units_val f false c.Q c.k fine);
    }

pub rounded : (f : Format) (m : ℕ) (e : ℤ) (v : Float) → Found f m e v → Rounded f (fin false m e) v
rounded f m e v i =
    let n = m * up e * 4 ^ low f in
    let c = i.choice in
    record {
      held = i.held;
      above_zero = positive_of_value v (c.Q * 2 ^ c.k) (2 ^ low f) i.value (mul-pos i.some (pow_pos c.k));
      nearest = λ y. near f m e v c i.some v y i.value;
      even = λ y j g other t.
          even_pattern f v c.Q c.k (chosen_le f n (down e) v (down_pos e) c) (chosen_leads f n (down e) v (down_pos e) c) i.value
          (tied f m e v c i.some v y i.held i.value j g other t);
    }

-- ---- the standard
pub positive_root : (f : Format) (m : ℕ) (e : ℤ) → 0 < m → sqrt_of f (fin false m e) ≡ root f (m * up e) (down e)
unfolding sqrt_of
positive_root f m e M = ap (λ (b : Bool). cond b (fin false m e) (root f (m * up e) (down e))) (ne_eqb m 0 (omega arith))

negative_root : (f : Format) (m : ℕ) (e : ℤ) → 0 < m → sqrt_of f (fin true m e) ≡ nan
unfolding sqrt_of
negative_root f m e M = ap (λ (b : Bool). cond b (fin true m e) nan) (ne_eqb m 0 (omega arith))

pub square_root : (f : Format) → SquareRoot f (sqrt_of f)
unfolding sqrt_of
square_root f =
    record {
      of_nan = refl;
      of_infinity = refl;
      of_minus_infinity = refl;
      of_zero = λ s. refl;
      of_negative = negative_root f;
      of_positive = λ m e M i. subst (Rounded f (fin false m e)) (sym (positive_root f m e M)) (rounded f m e (root f (m * up e) (down e)) (found f m e M i));
    }
