-- 148 halvings bring every margin but +∞ to 1e-6 or below, so that a search with 148 turns tries every margin of rule S7.
-- A finite margin is below 2^128, and halving keeps that order; 2^128 halved 148 times is 2^-20, which is below 1e-6.
use mathlib.Core.Bool.{Bool, true, false, cond}
use Prim.Native.Nat.{ℕ, zero, suc, ◌+◌, ◌*◌, ◌^◌, ◌≤◌, ◌<◌}
use native.Mathlib.Omega.{arith}
use mathlib.Core.Path.{◌≡◌, refl, sym, ap, subst, ◌∙◌}
use lib.Dec.{T}
use lib.IntN.{ℤ, pos}
use lib.Ieee.{Float, nan, inf, fin, binary32, up, down, of_bits, lt, le, mul, round, fits}
use Rattle.std.specs.Prelude.{Option, Some, None}
use Rattle.float32.proofs.Exactness.{digits}
use Rattle.float_laws.proofs.Monotone.{mul_mono}
use Rattle.float32.proofs.Order.{cross→le}
use Rattle.float32.proofs.OrderLaws.{lt_le_trans}
use Rattle.math.specs.Vec3s.{◌⊗◌, tolerance}
use Rattle.math.specs.Transform.{half}
use Rattle.shrink.specs.Margins.{halved, passing}

-- 2^128
abbrev top : Float
top = fin false 1 (pos 128)

-- over any bound, since `omega` reads no number of 39 digits
crossed : (a d bound : ℕ) → a < bound * d → a * 1 + 0 * d ≤ bound * d + 0 * 1
crossed a d bound h = omega arith

nothing : (a d bound : ℕ) → 0 * 1 + 0 * d ≤ bound * d + a * 1
nothing a d bound = omega arith

below_top : (s : Bool) (m : ℕ) (e : ℤ) → T (fits binary32 (fin s m e)) → T (le (fin s m e) top)
below_top false m e f = cross→le (fin false m e) top tt tt (crossed (m * up e) (down e) (2 ^ 128) (digits binary32 false m e f).below)
below_top true m e f = cross→le (fin true m e) top tt tt (nothing (m * up e) (down e) (2 ^ 128))

halved_mono : (k : ℕ) (x y : Float) → T (le x y) → T (le (halved k x) (halved k y))
unfolding of_bits
halved_mono zero x y h = h
halved_mono (suc k) x y h = halved_mono k (x ⊗ half) (y ⊗ half) (mul_mono binary32 x y half tt h)

-- by computing
top_halved : lt tolerance (halved 148 top) ≡ false
unfolding of_bits mul round lt
top_halved = refl

under_top : (x : Float) → T (le x top) → lt tolerance (halved 148 x) ≡ false
under_top x h = go (lt tolerance (halved 148 x)) refl
  where
    go : (b : Bool) → lt tolerance (halved 148 x) ≡ b → b ≡ false
    go false e = refl
    go true e =
        absurd (subst T top_halved (lt_le_trans tolerance (halved 148 x) (halved 148 top) (subst T (sym e) tt) (halved_mono 148 x top h)))

nan_halved : (k : ℕ) → halved k nan ≡ nan
unfolding mul
nan_halved zero = refl
nan_halved (suc k) = nan_halved k

-- Every margin of the format but +∞ is at most 148 times above 1e-6.
pub few_above : (m : Float) → T (fits binary32 m) → (m ≡ inf false → ⊥) → lt tolerance (halved 148 m) ≡ false
unfolding le lt of_bits
few_above nan f n = ap (lt tolerance) (nan_halved 148)
few_above (inf true) f n = under_top (inf true) tt
few_above (inf false) f n = absurd (n refl)
few_above (fin s m e) f n = under_top (fin s m e) (below_top s m e f)

-- further turns find nothing, once a margin is no longer above 1e-6
stops : (test : Float → Bool) (n k : ℕ) (m : Float) → lt tolerance (halved n m) ≡ false → passing test (n + k) m ≡ passing test n m
stops test zero zero m h = refl
stops test zero (suc k) m h =
    let turns : 0 + suc k ≡ suc k = omega arith in
    ap (λ (n : ℕ). passing test n m) turns
    ∙ ap (λ (b : Bool). cond b (cond (test m) (Some m) (passing test k (m ⊗ half))) None) h
stops test (suc n) k m h =
    let more : suc n + k ≡ suc (n + k) = omega arith in
    ap (λ (turns : ℕ). passing test turns m) more
    ∙ ap (λ (rest : Option Float). cond (lt tolerance m) (cond (test m) (Some m) rest) None) (stops test n k (m ⊗ half) h)

-- Rule S7 is the search with 148 turns: more of them answer the same.
pub all_tried : (test : Float → Bool) (k : ℕ) (m : Float) → T (fits binary32 m) → (m ≡ inf false → ⊥) → passing test (148 + k) m ≡ passing test 148 m
all_tried test k m f n = stops test 148 k m (few_above m f n)
