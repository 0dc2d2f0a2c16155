-- `Neighbours`, said of fractions: r = a / b and y = ± c / g are R and Y smallest values, p of which make 1, and x = num / d is n squares of one. By
-- cross-multiplying.
use mathlib.Core.Path.{◌≡◌, sym, ap, ◌∙◌, subst}
use mathlib.Core.Logic.{◌⊎◌, inl}
use Prim.Native.Nat.{ℕ, ◌+◌, ◌-◌, ◌*◌, ◌≤◌, ◌<◌, zero-le}
use native.Mathlib.Nat.{le_trans, le_of_eq, le_antisymm, lt_of_le_of_lt, lt_of_lt_of_le, sub-le, add-zero, mul_comm, mul-sub, mul-pos}
use native.Mathlib.Nat.{mul-le-mul, mul-le-mul_right, mul-lt-mul_of_pos_left}
use native.Mathlib.Nat.{le_of_mul-le-mul_right, lt_of_mul-lt-mul_left, eq_of_mul-eq-mul_right}
use native.Mathlib.Omega.{arith}
use Rattle.float_laws.proofs.root.Neighbours.{Between, Outside, below, above, tie, other_side}

-- ---- the order of r and y, and their sum
module _ (a b c g p R Y : ℕ) (P : 0 < p) (W : 0 < b * g) (r : a * p ≡ R * b) (y : c * p ≡ Y * g) where
  r_part : p * (a * g) ≡ b * g * R
  r_part = omega (arith, ap (λ (z : ℕ). z * g) r)

  y_part : p * (c * b) ≡ b * g * Y
  y_part = omega (arith, ap (λ (z : ℕ). z * b) y)

  sum : (a * g + c * b) * p ≡ (R + Y) * (b * g)
  sum = omega (arith, r_part, y_part)

  difference : (a * g - c * b) * p ≡ (R - Y) * (b * g)
  difference =
      mul_comm (a * g - c * b) p
      ∙ mul-sub p (a * g) (c * b)
      ∙ ap (λ (z : ℕ). z - p * (c * b)) r_part
      ∙ ap (λ (z : ℕ). b * g * R - z) y_part
      ∙ sym (mul-sub (b * g) R Y)
      ∙ mul_comm (b * g) (R - Y)

  less : a * g < c * b → R < Y
  less h = lt_of_mul-lt-mul_left (b * g) (lt_of_le_of_lt (le_of_eq (sym r_part)) (lt_of_lt_of_le (mul-lt-mul_of_pos_left h P) (le_of_eq y_part)))

  more : c * b < a * g → Y < R
  more h = lt_of_mul-lt-mul_left (b * g) (lt_of_le_of_lt (le_of_eq (sym y_part)) (lt_of_lt_of_le (mul-lt-mul_of_pos_left h P) (le_of_eq r_part)))

  less_back : R < Y → a * g < c * b
  less_back h = lt_of_mul-lt-mul_left p (lt_of_le_of_lt (le_of_eq r_part) (lt_of_lt_of_le (mul-lt-mul_of_pos_left h W) (le_of_eq (sym y_part))))

  more_back : Y < R → c * b < a * g
  more_back h = lt_of_mul-lt-mul_left p (lt_of_le_of_lt (le_of_eq y_part) (lt_of_lt_of_le (mul-lt-mul_of_pos_left h W) (le_of_eq (sym r_part))))

-- ---- the square of a sum s / w, which is z smallest values, beside 4 * x
module _ (num d n p w : ℕ) (P : 0 < p) (W : 0 < w) (x : n ≡ num * (p * p)) (s z : ℕ) (e : s * p ≡ z * w) where
  squares : s * s * d * (p * p) ≡ z * z * d * (w * w)
  squares = omega (arith, ap (λ (z : ℕ). z * z * d) e)

  fours : 4 * num * (w * w) * (p * p) ≡ 4 * n * (w * w)
  fours = omega (arith, ap (λ (z : ℕ). z * (w * w)) x)

  at_most : z * z * d ≤ 4 * n → s * s * d ≤ 4 * num * (w * w)
  at_most h = le_of_mul-le-mul_right (le_trans (le_of_eq squares) (le_trans (mul-le-mul_right (w * w) h) (le_of_eq (sym fours)))) (mul-pos P P)

  at_least : 4 * n ≤ z * z * d → 4 * num * (w * w) ≤ s * s * d
  at_least h = le_of_mul-le-mul_right (le_trans (le_of_eq fours) (le_trans (mul-le-mul_right (w * w) h) (le_of_eq (sym squares)))) (mul-pos P P)

  equal : s * s * d ≡ 4 * num * (w * w) → z * z * d ≡ 4 * n
  equal h = eq_of_mul-eq-mul_right (w * w) (mul-pos W W) (z * z * d) (4 * n) (sym squares ∙ ap (λ (z : ℕ). z * (p * p)) h ∙ fours)

-- ---- R is chosen of the neighbours L and H; y = c / g or y = - c / g lies not between them
pub record Beside (num d n L H R a b c g Y : ℕ) : Type 0 where
  pub more_back : Y < R → c * b < a * g
  pub less_back : R < Y → a * g < c * b
  pub near_below : c * b < a * g → (a * g + c * b) * (a * g + c * b) * d ≤ 4 * num * (b * g * (b * g))
  pub near_above : a * g < c * b → 4 * num * (b * g * (b * g)) ≤ (a * g + c * b) * (a * g + c * b) * d
  pub near_negative : (a * g - c * b) * (a * g - c * b) * d ≤ 4 * num * (b * g * (b * g))
  pub tied : (Y ≡ R → ⊥) → (a * g + c * b) * (a * g + c * b) * d ≡ 4 * num * (b * g * (b * g)) → (L + H) * (L + H) * d ≡ 4 * n
  pub tied_negative : (a * g - c * b) * (a * g - c * b) * d ≡ 4 * num * (b * g * (b * g)) → (L + H) * (L + H) * d ≡ 4 * n
  pub neighbour : (Y ≡ R → ⊥) → (a * g + c * b) * (a * g + c * b) * d ≡ 4 * num * (b * g * (b * g)) → ((R ≡ L) × (Y ≡ H)) ⊎ ((R ≡ H) × (Y ≡ L))

module _ (num d n p L H R : ℕ) (P : 0 < p) (x : n ≡ num * (p * p)) (i : Between n d L H R) (some : 0 < R) where
  -- 0 is no nearer to the root than R is.
  pub square_le : R * R * d ≤ 4 * n
  square_le = subst (λ (z : ℕ). z * z * d ≤ 4 * n) (add-zero R) (below n d L H R 0 i (inl zero-le) some)

  -- A y below zero leaves of r at most r, and is as near only if 0 is.
  pub beside : (a b c g Y : ℕ) → 0 < b * g → a * p ≡ R * b → c * p ≡ Y * g → Outside L H Y → Beside num d n L H R a b c g Y
  beside a b c g Y W r y o =
      let plus = sum a b c g p R Y P W r y in
      let minus = difference a b c g p R Y P W r y in
      let minus-le : (R - Y) * (R - Y) * d ≤ R * R * d = mul-le-mul_right d (mul-le-mul (sub-le R Y) (sub-le R Y)) in
      record {
        more_back = more_back a b c g p R Y P W r y;
        less_back = less_back a b c g p R Y P W r y;
        near_below = λ h. at_most num d n p (b * g) P W x (a * g + c * b) (R + Y) plus (below n d L H R Y i o (more a b c g p R Y P W r y h));
        near_above = λ h. at_least num d n p (b * g) P W x (a * g + c * b) (R + Y) plus (above n d L H R Y i o (less a b c g p R Y P W r y h));
        near_negative = at_most num d n p (b * g) P W x (a * g - c * b) (R - Y) minus (le_trans minus-le square_le);
        tied = λ other t. tie n d L H R Y i o other (equal num d n p (b * g) P W x (a * g + c * b) (R + Y) plus t);
        tied_negative = λ t.
            tie n d L H R 0 i (inl zero-le) (omega arith)
            (subst (λ (z : ℕ). z * z * d ≡ 4 * n) (sym (add-zero R))
            (le_antisymm square_le (le_trans (le_of_eq (sym (equal num d n p (b * g) P W x (a * g - c * b) (R - Y) minus t))) minus-le)));
        neighbour = λ other t. other_side n d L H R Y i o other (equal num d n p (b * g) P W x (a * g + c * b) (R + Y) plus t);
      }
