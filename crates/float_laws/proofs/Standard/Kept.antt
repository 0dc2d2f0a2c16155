-- What `round` keeps of ± a / c: with n / c that number in smallest values, Q times 2 ^ k of them, where Q is q or q + 1, the two next to n
-- / c in that unit, and of them the nearer one. By the digits of the whole part.
use mathlib.Core.Path.{◌≡◌, sym, ap, subst}
use mathlib.Core.Logic.{inl, inr}
use mathlib.Core.Bool.{Bool}
use Prim.Native.Nat.{ℕ, ◌+◌, ◌-◌, ◌*◌, ◌/◌, ◌%◌, ◌^◌, ◌≤◌, ◌<◌, compare}
use native.Mathlib.Nat.{le_trans, le_of_eq, mul-pos, mod-lt, mul-le-mul_right, div-add-mod', div-div-eq-div-mul, le-div_iff_mul-le, eq-zero-or-pos}
use native.Mathlib.Omega.{arith}
use lib.Pow.{pow-add, pow_pos}
use lib.Ieee.{Format, prec, low, hid, size, nearest, units, round}
use lib.Ieee.Digits.{size_reaches}
use lib.Ieee.Fits.{kept-lt, round_is}
use Rattle.float32.proofs.root.Written.{Leads, prec_pos}
use Rattle.float_laws.proofs.root.Neighbours.{Choice, choice, Outside}
use Rattle.float_laws.proofs.root.Grid.{gap}
use Rattle.float_laws.proofs.Standard.Distances.{Between}

-- a / c in smallest values is in_units f a / c
abbrev pub in_units : Format → ℕ → ℕ
in_units f a = a * 2 ^ low f

pub record Kept (f : Format) (a c : ℕ) : Type 0 where
  pub q : ℕ
  pub k : ℕ
  pub Q : ℕ
  pub is : (s : Bool) → round f s a c ≡ units f s Q k
  pub between : Between (in_units f a) (q * 2 ^ k * c) ((q + 1) * 2 ^ k * c) (Q * 2 ^ k * c)
  pub even : 2 * in_units f a ≡ q * 2 ^ k * c + (q + 1) * 2 ^ k * c → Q % 2 ≡ 0
  pub digits : q < 2 ^ prec f
  pub leads : Leads f q k
  pub at_least : q ≤ Q
  pub at_most : Q ≤ 2 ^ prec f

-- n is q * u and a rest r, and the choice goes by the rest.
module _ (n c p q r Q : ℕ) (whole : q * (c * p) + r ≡ n) (rest : r < c * p) (i : Choice (r * 2) (c * p) q Q) where
  abbrev u : ℕ
  u = c * p

  lower : q * p * c ≡ q * u
  lower = omega arith

  upper : (q + 1) * p * c ≡ q * u + u
  upper = omega arith

  between_of : Between n (q * p * c) ((q + 1) * p * c) (Q * p * c)
  between_of =
      record {
        low = omega (arith, lower);
        high = omega (arith, upper);
        pick = elim i.pick [
          | inl h ↦ inl (ap (λ (z : ℕ). z * p * c) h.0, omega (arith, lower, upper))
          | inr h ↦ inr (ap (λ (z : ℕ). z * p * c) h.0, omega (arith, lower, upper))
        ];
      }

  even_of : 2 * n ≡ q * p * c + (q + 1) * p * c → Q % 2 ≡ 0
  even_of e = i.even (omega (arith, lower, upper))

pub kept : (f : Format) (a c : ℕ) → 0 < c → Kept f a c
kept f a c C =
    let n = in_units f a in
    let p = prec f in
    let k = size (n / c) - p in
    let u = c * 2 ^ k in
    let q = n / u in
    let Q = nearest q (compare (n % u * 2) u) in
    let i = choice (n % u * 2) u q in
    let whole = div-add-mod' n u in
    let rest = mod-lt n (mul-pos C (pow_pos k)) in
    let same : n / c / 2 ^ k ≡ q = div-div-eq-div-mul n c (2 ^ k) in
    let digits : q < 2 ^ p = subst (λ (z : ℕ). z < 2 ^ p) same (kept-lt p (n / c)) in
    record {
      q = q;
      k = k;
      Q = Q;
      is = λ s. round_is f s a c;
      between = between_of n c (2 ^ k) q (n % u) Q whole rest i;
      even = even_of n c (2 ^ k) q (n % u) Q whole rest i;
      digits = digits;
      leads = elim (eq-zero-or-pos k) [
        | inl z ↦ inl z
        | inr g ↦ inr (subst (λ (z : ℕ). hid f ≤ z) same ((le-div_iff_mul-le (pow_pos k)).1
            (le_trans (le_of_eq (sym (pow-add 2 (p - 1) k))) (size_reaches (n / c) (p - 1 + k) (omega (arith, prec_pos f))))))
      ];
      at_least = elim i.pick [ inl h ↦ omega arith | inr h ↦ omega arith ];
      at_most = elim i.pick [ inl h ↦ omega arith | inr h ↦ omega arith ];
    }

-- The chosen one of the two has the digits of the format too, or is the next power of two.
pub leads_kept : (f : Format) (a c : ℕ) (i : Kept f a c) → Leads f i.Q i.k
leads_kept f a c i = elim i.leads [ inl z ↦ inl z | inr h ↦ inr (le_trans h i.at_least) ]

-- No number of the format lies between the two.
pub outside : (f : Format) (a c : ℕ) (i : Kept f a c) (m j : ℕ) → m < 2 ^ prec f → Outside (i.q * 2 ^ i.k * c) ((i.q + 1) * 2 ^ i.k * c) (m * 2 ^ j * c)
outside f a c i m j h = elim (gap f m j i.q i.k h i.leads) [ inl l ↦ inl (mul-le-mul_right c l) | inr l ↦ inr (mul-le-mul_right c l) ]
