-- What `root` gives: q or q + 1, times 2 ^ k smallest values, the two numbers of the format next to √(n / d), and of them the one that the mean tells
-- to be the nearer. By the digits of the whole root.
use mathlib.Core.Path.{◌≡◌, refl, sym, ap, ◌∙◌}
use mathlib.Core.Logic.{◌⊎◌, inl, inr}
use mathlib.Core.Bool.{false}
use Prim.Native.Nat.{ℕ, ◌+◌, ◌-◌, ◌*◌, ◌/◌, ◌%◌, ◌^◌, ◌≤◌, ◌<◌, compare}
use native.Mathlib.Nat.{le_trans, le_of_eq, lt_of_lt_of_le, lt_of_not-le, not-le_of_lt, lt-suc_self, mul_comm}
use native.Mathlib.Nat.{mul-le-mul, mul-le-mul_right, mul-pos, div-mul-le_self, eq-zero-or-pos, div-lt_iff_lt-mul, le-div_iff_mul-le}
use native.Mathlib.Omega.{arith}
use lib.Pow.{pow_pos, pow_mono}
use lib.Ieee.{Float, Format, prec, low, hid, size, nearest, units}
use lib.Ieee.Digits.{size-lt, size_reaches}
use Rattle.float32.specs.SquareRoot.{isqrt, root}
use Rattle.float32.proofs.root.WholeRoot.{isqrt_is, below_root}
use Rattle.float32.proofs.root.Written.{Leads, prec_pos}
use Rattle.float32.proofs.root.Kept.{four, four_pos, square_pow}
use Rattle.float_laws.proofs.root.Neighbours.{Choice, choice, Between}

-- v is Q smallest values times 2 ^ k, for the whole part q of the root in that unit.
pub record Chosen (f : Format) (n d : ℕ) (v : Float) : Type 0 where
  pub q : ℕ
  pub k : ℕ
  pub Q : ℕ
  pub is : v ≡ units f false Q k
  pub low : q * q * (d * 4 ^ k) ≤ n
  pub high : n < (q + 1) * (q + 1) * (d * 4 ^ k)
  pub choice : Choice (n * 4) ((2 * q + 1) * (2 * q + 1) * (d * 4 ^ k)) q Q
  pub digits : q < 2 ^ prec f
  pub leads : Leads f q k

scaled_square : (a k d : ℕ) → 2 ^ (a + k) * 2 ^ (a + k) * d ≡ 2 ^ a * 2 ^ a * (d * 4 ^ k)
scaled_square a k d = rw (square_pow a k) (omega arith)

-- the whole part of √(n / d)
record Whole (n d r : ℕ) : Type 0 where
  low : r * r * d ≤ n
  high : n < (r + 1) * (r + 1) * d

whole : (n d : ℕ) → 0 < d → Whole n d (isqrt (n / d))
whole n d D =
    record {
      low = le_trans (mul-le-mul_right d (isqrt_is (n / d)).low) (div-mul-le_self n d);
      high = lt_of_lt_of_le ((div-lt_iff_lt-mul D).0 (lt-suc_self (n / d))) (mul-le-mul_right d (isqrt_is (n / d)).high);
    }

-- With k dropped digits of the whole root w, what is kept, q, has p digits, and the leading one among them.
module _ (n d p k w : ℕ) (i : Whole n d w) where
  few : (q : ℕ) → w < 2 ^ (p + k) → q * q * (d * 4 ^ k) ≤ n → q < 2 ^ p
  few q h low =
      lt_of_not-le (λ (g : 2 ^ p ≤ q).
      not-le_of_lt
      (lt_of_lt_of_le i.high (mul-le-mul_right {m = (w + 1) * (w + 1)} d (mul-le-mul {n₁ = w + 1} {n₂ = 2 ^ (p + k)} (omega arith) (omega arith))))
      (le_trans (le_of_eq (scaled_square p k d)) (le_trans (mul-le-mul_right (d * 4 ^ k) (mul-le-mul g g)) low)))

  all : 2 ^ (p - 1 + k) ≤ w → 2 ^ (p - 1) * 2 ^ (p - 1) * (d * 4 ^ k) ≤ n
  all h = le_trans (le_of_eq (sym (scaled_square (p - 1) k d))) (le_trans (mul-le-mul_right d (mul-le-mul h h)) i.low)

pub chosen : (f : Format) (a d : ℕ) → 0 < d → Chosen f (a * 4 ^ low f) d (root f a d)
unfolding root
chosen f a d D =
    let n = a * 4 ^ low f in
    let w = isqrt (n / d) in
    let p = prec f in
    let k = size w - p in
    let u = d * 4 ^ k in
    let U : 0 < u = mul-pos D (four_pos k) in
    let q = isqrt (n / u) in
    let i = whole n u U in
    record {
      q = q;
      k = k;
      Q = nearest q (compare (n * 4) ((2 * q + 1) * (2 * q + 1) * u));
      is = refl;
      low = i.low;
      high = i.high;
      choice = choice (n * 4) ((2 * q + 1) * (2 * q + 1) * u) q;
      digits = few n d p k w (whole n d D) q (lt_of_lt_of_le (size-lt w) (pow_mono (omega arith))) i.low;
      leads = elim (eq-zero-or-pos k) [
        | inl z ↦ inl z
        | inr g ↦ inr (below_root (hid f) (n / u)
            ((le-div_iff_mul-le U).1 (all n d p k w (whole n d D) (size_reaches w (p - 1 + k) (omega (arith, prec_pos f))))))
      ];
    }

-- ---- the two as neighbours
module _ (f : Format) (n d : ℕ) (v : Float) (D : 0 < d) (c : Chosen f n d v) where
  square : (q k : ℕ) → q * 2 ^ k * (q * 2 ^ k) * d ≡ q * q * (d * 4 ^ k)
  square q k = rw (four k) (omega arith)

  mean : (q k : ℕ) → (q * 2 ^ k + (q + 1) * 2 ^ k) * (q * 2 ^ k + (q + 1) * 2 ^ k) * d ≡ (2 * q + 1) * (2 * q + 1) * (d * 4 ^ k)
  mean q k = rw (four k) (omega arith)

  pub between : Between n d (c.q * 2 ^ c.k) ((c.q + 1) * 2 ^ c.k) (c.Q * 2 ^ c.k)
  between =
      record {
        some = D;
        low = le_trans (le_of_eq (square c.q c.k)) c.low;
        high = lt_of_lt_of_le c.high (le_of_eq (sym (square (c.q + 1) c.k)));
        pick = elim c.choice.pick [
          | inl p ↦ inl (ap (λ (z : ℕ). z * 2 ^ c.k) p.0, le_trans (le_of_eq (mul_comm 4 n)) (le_trans p.1 (le_of_eq (sym (mean c.q c.k)))))
          | inr p ↦ inr (ap (λ (z : ℕ). z * 2 ^ c.k) p.0, le_trans (le_of_eq (mean c.q c.k)) (le_trans p.1 (le_of_eq (mul_comm n 4))))
        ];
      }

  pub even : (c.q * 2 ^ c.k + (c.q + 1) * 2 ^ c.k) * (c.q * 2 ^ c.k + (c.q + 1) * 2 ^ c.k) * d ≡ 4 * n → c.Q % 2 ≡ 0
  even e = c.choice.even (mul_comm n 4 ∙ sym e ∙ mean c.q c.k)

  -- ---- what is chosen, in size
  pub chosen_ge : c.q ≤ c.Q
  chosen_ge = elim c.choice.pick [ inl p ↦ omega arith | inr p ↦ omega arith ]

  pub chosen_le : c.Q ≤ 2 ^ prec f
  chosen_le = elim c.choice.pick [ inl p ↦ omega (arith, c.digits) | inr p ↦ omega (arith, c.digits) ]

  pub chosen_leads : Leads f c.Q c.k
  chosen_leads = elim c.leads [ inl z ↦ inl z | inr h ↦ inr (le_trans h chosen_ge) ]

  pub chosen_pos : d ≤ n → 0 < c.Q
  chosen_pos h = lt_of_lt_of_le (elim c.leads [ inl z ↦ some z (eq-zero-or-pos c.q) | inr l ↦ lt_of_lt_of_le (pow_pos (prec f - 1)) l ]) chosen_ge
    where
      no : (q k : ℕ) → q ≡ 0 → k ≡ 0 → n < (q + 1) * (q + 1) * (d * 4 ^ k) → ⊥
      no q k a b l = let l' = rw (a, b) at l in omega arith

      some : c.k ≡ 0 → (c.q ≡ 0) ⊎ (0 < c.q) → 0 < c.q
      some z (inl e) = absurd (no c.q c.k e z c.high)
      some z (inr g) = g
