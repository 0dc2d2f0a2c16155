-- |x| < 1e-6 by two comparisons: x < 1e-6 and -1e-6 < x, of which a NaN passes neither.
use Prim.Native.Nat.{ℕ, ◌+◌, ◌*◌}
use native.Mathlib.Omega.{arith}
use mathlib.Core.Path.{◌≡◌, refl, sym, ap, ◌∙◌}
use mathlib.Core.Bool.{Bool, true, false, not, ◌&&◌}
use lib.Dec.{ltb, eqb}
use lib.IntN.{ℤ}
use Rattle.std.specs.Int.{from_bool}
use lib.Ieee.{Float, nan, inf, fin, of_bits, lt, neg, up, down}
use Rattle.float32.specs.Signs.{abs_of}
use Rattle.math.specs.Vec3s.{tolerance}
use Rattle.rays.specs.Steps.Counting.{Failed}
use borrow.Author.Tests.{lt-ltb, ltb-true, eqb-true, eqb-false}

below_both : (a b : ℕ) → ltb a b ≡ ltb a b && ltb 0 (b + a)
below_both a b = go (ltb a b) refl
  where
    go : (t : Bool) → ltb a b ≡ t → t ≡ t && ltb 0 (b + a)
    go true e = sym (lt-ltb 0 (b + a) (omega (arith, ltb-true a b e)))
    go false e = refl

both_below : (a b : ℕ) → ltb a b ≡ ltb 0 (a + b) && ltb a b
both_below a b = go (ltb a b) refl
  where
    swap : (t : Bool) → t ≡ true → true ≡ t && true
    swap t e = rw e

    none : (t : Bool) → false ≡ t && false
    none true = refl
    none false = refl

    go : (t : Bool) → ltb a b ≡ t → t ≡ ltb 0 (a + b) && t
    go true e = swap (ltb 0 (a + b)) (lt-ltb 0 (a + b) (omega (arith, ltb-true a b e)))
    go false e = none (ltb 0 (a + b))

abs_below : (x : Float) (n : ℕ) (d : ℤ) → lt (abs_of x) (fin false n d) ≡ lt x (fin false n d) && lt (neg (fin false n d)) x
unfolding abs_of lt neg
abs_below nan n d = refl
abs_below (inf true) n d = refl
abs_below (inf false) n d = refl
abs_below (fin false m e) n d = below_both (m * up e * down d) (n * up d * down e)
abs_below (fin true m e) n d = both_below (m * up e * down d) (n * up d * down e)

pub flat_by_two : (x : Float) → lt (abs_of x) tolerance ≡ lt x tolerance && lt (neg tolerance) x
unfolding of_bits
flat_by_two x = abs_below x _ _

-- Two tests that both fail, two of which one passes, and the test whether both fail.
pub both_failed : (a b : Bool) {r s : ℕ} → Failed 1 (not a) r → Failed 1 (not b) s → r + s ≡ 2 → false ≡ not (a && b)
both_failed true true f g e = refl
both_failed true false {r} {s} f g e = absurd (omega (arith, eqb-true s 0 g.none, f.few))
both_failed false b {r} {s} f g e = absurd (omega (arith, eqb-true r 0 f.none, g.few))

pub one_passed : (a b : Bool) {r s : ℕ} → Failed 1 (not a) r → Failed 1 (not b) s → (r + s ≡ 2 → ⊥) → true ≡ not (a && b)
one_passed true true {r} {s} f g e = absurd (e (omega (arith, eqb-false r 0 f.none, eqb-false s 0 g.none, f.few, g.few)))
one_passed true false f g e = refl
one_passed false b f g e = refl

pub both_fail : (a b : Bool) {r s : ℕ} → Failed 1 (not a) r → Failed 1 (not b) s → (n : ℕ) → n ≡ from_bool (eqb (r + s) 2) → Failed 1 (not (a && b)) n
both_fail a b {r} {s} f g n e = go (eqb (r + s) 2) refl
  where
    go : (t : Bool) → eqb (r + s) 2 ≡ t → Failed 1 (not (a && b)) n
    go true h =
        let one : n ≡ 1 = e ∙ ap from_bool h in
        record { none = ap (λ (k : ℕ). eqb k 0) one ∙ both_failed a b f g (eqb-true (r + s) 2 h); few = omega arith }
    go false h =
        let zero : n ≡ 0 = e ∙ ap from_bool h in
        record { none = ap (λ (k : ℕ). eqb k 0) zero ∙ one_passed a b f g (eqb-false (r + s) 2 h); few = omega arith }
