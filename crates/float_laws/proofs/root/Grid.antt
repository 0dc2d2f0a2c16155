-- The numbers of a format, in smallest values: each is m * 2 ^ j with an m of the format's digits, and so none lies between q * 2 ^ k and (q + 1) * 2
-- ^ k, where q has all of those digits or k is 0.
use mathlib.Core.Path.{◌≡◌, sym, ap, ◌∙◌, subst}
use mathlib.Core.Logic.{inl, inr}
use mathlib.Core.Bool.{Bool, ◌&&◌}
use Prim.Native.Nat.{ℕ, zero, suc, ◌+◌, ◌-◌, ◌*◌, ◌%◌, ◌^◌, ◌≤◌, ◌<◌}
use native.Mathlib.Nat.{le_trans, le_of_eq, le_of_lt, le_of_suc-le-suc, lt_of_lt_of_le, lt_of_not-le, lt_irrefl, mul_assoc, mul-le-mul_right}
use native.Mathlib.Decide.{dec_le}
use native.Mathlib.Omega.{arith}
use lib.Dec.{T, ltb, leb, eqb, ltb→lt, leb→le}
use lib.IntN.{ℤ, pos, negsuc}
use lib.Pow.{pow-add, pow_pos, pow_mono, pow-lt}
use lib.Ieee.{fin, Format, prec, emax, low, up, down, fits}
use lib.Ieee.Digits.{back}
use lib.Ieee.Fits.{and_l, and_r}
use Rattle.float32.proofs.root.Written.{Leads, prec_pos}
use Rattle.float_laws.proofs.root.Neighbours.{Outside}

-- ---- what it takes to fit
pub record Fitting (f : Format) (m : ℕ) (e : ℤ) : Type 0 where
  pub digits : m < 2 ^ prec f
  pub place : down e ≤ 2 ^ low f
  pub range : m * up e < 2 ^ suc (emax f) * down e

pub fitting : (f : Format) (s : Bool) (m : ℕ) (e : ℤ) → 0 < m → T (fits f (fin s m e)) → Fitting f m e
unfolding fits
fitting f s zero e M h = absurd (lt_irrefl 0 M)
fitting f s (suc m) e M h =
    let A = eqb (suc m % 2) 1 in
    let B = ltb (suc m) (2 ^ prec f) in
    let C = leb (down e) (2 ^ low f) in
    let D = ltb (suc m * up e) (2 ^ suc (emax f) * down e) in
    record {
      digits = ltb→lt (suc m) (2 ^ prec f) (and_r A B (and_l (A && B) C (and_l (A && B && C) D h)));
      place = leb→le (down e) (2 ^ low f) (and_r (A && B) C (and_l (A && B && C) D h));
      range = ltb→lt (suc m * up e) (2 ^ suc (emax f) * down e) (and_r (A && B && C) D h);
    }

-- ---- in smallest values
place_of : (l m : ℕ) (e : ℤ) → down e ≤ 2 ^ l → (j : ℕ) × (m * up e * 2 ^ l ≡ m * 2 ^ j * down e)
place_of l m (pos a) h = (a + l, rw (pow-add 2 a l) (omega arith))
place_of l m (negsuc a) h =
    let le : suc a ≤ l = le_of_suc-le-suc (lt_of_not-le (λ (g : suc l ≤ suc a). lt_irrefl (2 ^ l) (lt_of_lt_of_le (pow-lt g) h))) in (
      l - suc a,
      subst (λ (z : ℕ). m * 1 * z ≡ m * 2 ^ (l - suc a) * 2 ^ suc a)
          (sym (pow-add 2 (l - suc a) (suc a)) ∙ ap (λ (z : ℕ). 2 ^ z) (back l (suc a) le)) (omega arith),
    )

pub record OnGrid (f : Format) (m : ℕ) (e : ℤ) : Type 0 where
  pub j : ℕ
  pub digits : m < 2 ^ prec f
  pub same : m * up e * 2 ^ low f ≡ m * 2 ^ j * down e

pub on_grid : (f : Format) (s : Bool) (m : ℕ) (e : ℤ) → T (fits f (fin s m e)) → OnGrid f m e
on_grid f s zero e h = record { j = 0; digits = pow_pos (prec f); same = omega arith }
on_grid f s (suc m) e h =
    let i = fitting f s (suc m) e (omega arith) h in
    let p = place_of (low f) (suc m) e i.place in
    record { j = p.0; digits = i.digits; same = p.1 }

-- ---- no number of the format lies between two neighbours
pub gap : (f : Format) (m j q k : ℕ) → m < 2 ^ prec f → Leads f q k → Outside (q * 2 ^ k) ((q + 1) * 2 ^ k) (m * 2 ^ j)
gap f m j q k hi l = either (dec_le k j)
  where
    -- a multiple of 2 ^ k
    multiple : k ≤ j → Dec (m * 2 ^ (j - k) ≤ q) → Outside (q * 2 ^ k) ((q + 1) * 2 ^ k) (m * 2 ^ (j - k) * 2 ^ k)
    multiple h (yes g) = inl (mul-le-mul_right (2 ^ k) g)
    multiple h (no g) = inr (mul-le-mul_right {m = q + 1} {n = m * 2 ^ (j - k)} (2 ^ k) (omega arith))

    -- a smaller unit, in which the format's digits do not reach hid * 2 ^ k
    finer : j < k → Leads f q k → m * 2 ^ j ≤ q * 2 ^ k
    finer h (inl e) = absurd (omega arith)
    finer h (inr g) =
        le_trans (mul-le-mul_right (2 ^ j) (le_of_lt hi))
        (le_trans (le_of_eq (sym (pow-add 2 (prec f) j)))
        (le_trans (pow_mono {i = prec f + j} {j = prec f - 1 + k} (omega (arith, prec_pos f)))
        (le_trans (le_of_eq (pow-add 2 (prec f - 1) k)) (mul-le-mul_right (2 ^ k) g))))

    either : Dec (k ≤ j) → Outside (q * 2 ^ k) ((q + 1) * 2 ^ k) (m * 2 ^ j)
    either (yes h) =
        subst (λ (z : ℕ). Outside (q * 2 ^ k) ((q + 1) * 2 ^ k) z)
        (mul_assoc m (2 ^ (j - k)) (2 ^ k) ∙ ap (λ (z : ℕ). m * z) (sym (pow-add 2 (j - k) k) ∙ ap (λ (z : ℕ). 2 ^ z) (back j k h)))
        (multiple h (dec_le (m * 2 ^ (j - k)) q))
    either (no h) = inl (finer (omega arith) l)
