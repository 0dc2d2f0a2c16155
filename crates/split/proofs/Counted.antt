-- What the number of places that pass a test tells: none of them does where it is 0, and the first so many do where none behind them does.
use Prim.Native.Nat.{ℕ, zero, suc, ◌≤◌, ◌<◌}
use native.Mathlib.Omega.{arith}
use mathlib.Core.Bool.{Bool, true, false}
use mathlib.Core.List.{List, [], ◌∷◌}
use mathlib.Core.Path.{◌≡◌, refl}
use lib.ListN.{length, get_or}
use Rattle.base.specs.Lists.{one_if, sift}
use Rattle.base.proofs.ListLaws.{length_kept}
use Rattle.math.specs.declared.axis.Axis.{Axis}
use Rattle.math.specs.declared.axis.Axis.TheVariants.{X, Y, Z}
use Rattle.split.specs.Steps.Groups.{step_of, Nowhere, Leading}

pub none_if : (b : Bool) → one_if b ≤ 0 → b ≡ false
none_if true h = absurd (omega arith)
none_if false h = refl

pub one_if_lem : (b : Bool) → 1 ≤ one_if b → b ≡ true
one_if_lem true h = refl
one_if_lem false h = absurd (omega arith)

at_most : (b : Bool) → one_if b ≤ 1
at_most true = omega arith
at_most false = omega arith

pub step_zero : (a : Axis) → step_of a ≡ 0 → a ≡ X
step_zero X h = refl
step_zero Y h = absurd (omega arith)
step_zero Z h = absurd (omega arith)

module _ (test : ℕ → Bool) where
  later : (p : ℕ) (ps : List ℕ) (k : ℕ) → Nowhere test (suc k) (p ∷ ps) → Nowhere test k ps
  later p ps k w = record { fails = λ j l h. w.fails (suc j) (omega arith) (omega arith) }

  pub none_counted : (ps : List ℕ) → length (sift test ps) ≡ 0 → Nowhere test 0 ps
  none_counted [] e = record { fails = λ j l h. absurd (omega arith) }
  none_counted (p ∷ ps) e =
      let c = length_kept (test p) p (sift test ps) in
      let rest = none_counted ps (omega (arith, c)) in
      record { fails = go (none_if (test p) (omega (arith, c))) rest }
    where
      go : test p ≡ false → Nowhere test 0 ps → (j : ℕ) → 0 ≤ j → j < length (p ∷ ps) → test (get_or (p ∷ ps) j 0) ≡ false
      go f n zero l h = f
      go f n (suc j) l h = n.fails j (omega arith) (omega arith)

  few : (ps : List ℕ) (k : ℕ) → Nowhere test k ps → length (sift test ps) ≤ k
  few [] k w = omega arith
  few (p ∷ ps) zero w =
      let c = length_kept (test p) p (sift test ps) in
      let f = w.fails 0 (omega arith) (omega arith) in
      let r = few ps zero (record { fails = λ j l h. w.fails (suc j) (omega arith) (omega arith) }) in
      rw f r
  few (p ∷ ps) (suc k) w =
      let c = length_kept (test p) p (sift test ps) in
      omega (arith, c, at_most (test p), few ps k (later p ps k w))

  -- as many pass as stand before a position from which on none does: so those are the ones
  pub counted_leading : (ps : List ℕ) (k : ℕ) → length (sift test ps) ≡ k → Nowhere test k ps → Leading test ps k
  counted_leading ps zero e w = record { within = omega arith; pass = λ j h. absurd (omega arith) }
  counted_leading [] (suc k) e w = absurd (omega arith)
  counted_leading (p ∷ ps) (suc k) e w =
      let c = length_kept (test p) p (sift test ps) in
      let most = few ps k (later p ps k w) in
      let passes = one_if_lem (test p) (omega (arith, c, most)) in
      let rest = counted_leading ps k (omega (arith, c, most, at_most (test p))) (later p ps k w) in
      record { within = omega (arith, rest.within); pass = go passes rest }
    where
      go : test p ≡ true → Leading test ps k → (j : ℕ) → j < suc k → test (get_or (p ∷ ps) j 0) ≡ true
      go t r zero h = t
      go t r (suc j) h = r.pass j (omega arith)
