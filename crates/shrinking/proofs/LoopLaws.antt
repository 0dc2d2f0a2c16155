-- Refusal 7 is just the start at +infinity, and the 148 turns of the definition are all turns of the source's loop for everyone who is not refused.
use Prim.Native.Nat.{ℕ, ◌+◌}
use mathlib.Core.Bool.{true, false, true≢false, cond}
use mathlib.Core.Path.{◌≡◌, refl, sym, ap, ◌∙◌}
use lib.Dec.{T}
use lib.Ieee.{Float, nan, inf, fin, binary32, of_bits, eq, lt, is_nan, fits}
use lib.Ieee.Fits.{cond-fits, mul-fits}
use Rattle.float32.specs.Extremes.{min_number_of}
use Rattle.math.specs.declared.vec3.Vec3.{Vec3}
use Rattle.rings.specs.Meshes.{Mesh}
use Rattle.shrink.specs.Margins.{start_of, passing}
use Rattle.trial.specs.Trials.{passes_at}
use Rattle.shrink.specs.Shrinking.{shrink_margin}
use Rattle.shrink.proofs.AllTried.{all_tried}
use Rattle.shrinking.specs.declared.whole.Geometry.{Geometry}
use Rattle.shrinking.specs.Whole.{bound_of, infinity, infinite_start}

-- ---- the start is a float of the format

least_fits : (a b : Float) → T (fits binary32 a) → T (fits binary32 b) → T (fits binary32 (min_number_of a b))
unfolding min_number_of
least_fits a b p q = cond-fits binary32 (is_nan a) b (cond (lt b a) b a) q (cond-fits binary32 (lt b a) b a q p)

start_fits : (margin : Float) (low high : Vec3) → T (fits binary32 margin) → T (fits binary32 (start_of margin low high))
unfolding start_of
start_fits margin low high f =
    least_fits _ _ (least_fits _ _ (least_fits margin _ f (mul-fits binary32 _ _)) (mul-fits binary32 _ _)) (mul-fits binary32 _ _)

-- ---- refusal 7

abbrev start : Geometry → Float
start g = start_of g.margin g.extent.min g.extent.max

infinite_equals : (x : Float) → eq x infinity ≡ true → x ≡ inf false
unfolding eq of_bits
infinite_equals nan e = absurd (true≢false (sym e))
infinite_equals (inf true) e = absurd (true≢false (sym e))
infinite_equals (inf false) e = refl
infinite_equals (fin s m x) e = absurd (true≢false (sym e))

equals_infinite : (x : Float) → x ≡ inf false → eq x infinity ≡ true
unfolding eq of_bits
equals_infinite x e = ap (λ (y : Float). eq y infinity) e

-- Who is refused starts at +infinity: never at a NaN, at −infinity or at a finite margin.
pub refused_infinite : (g : Geometry) → infinite_start g ≡ true → start_of g.margin g.extent.min g.extent.max ≡ inf false
unfolding infinite_start
refused_infinite g e = infinite_equals (start g) e

-- And who is not does not.
pub others_not : (g : Geometry) → infinite_start g ≡ false → start_of g.margin g.extent.min g.extent.max ≡ inf false → ⊥
unfolding infinite_start
others_not g e i = true≢false (sym (equals_infinite (start g) i) ∙ e)

-- ---- rule S7

-- Rule S7: of who is not refused, the loop with any number of further turns answers what the definition does. A margin is an f32, so it fits.
pub whole_loop : (g : Geometry) (mesh : Mesh) (k : ℕ) → T (fits binary32 g.margin) → infinite_start g ≡ false
    → passing (passes_at mesh) (148 + k) (start_of g.margin g.extent.min g.extent.max) ≡ shrink_margin (bound_of g) mesh
unfolding shrink_margin
whole_loop g mesh k f e =
    all_tried (passes_at mesh) k (start g) (start_fits g.margin g.extent.min g.extent.max f) (others_not g e)
