-- A truncated value by the clamp's tests: below, above, or within 32767 either way, where the clamp keeps x. Assumes nothing.
use mathlib.Core.Path.{◌≡◌, refl, sym, ◌∙◌}
use mathlib.Core.Bool.{true, false}
use lib.IntN.{pos, negsuc}
use lib.Ieee.{Float, nan, inf, fin, of_bits, neg, lt, ne, is_nan, to_signed}
use Rattle.float32.specs.Casts.{limit, truncated_of}
use Rattle.float32.proofs.Patterns.{ne_self}

no_nan_below : (x y : Float) → lt x y ≡ true → is_nan x ≡ false
unfolding lt is_nan
no_nan_below nan y h = sym h
no_nan_below (inf s) y h = refl
no_nan_below (fin s m e) y h = refl

no_nan_above : (x y : Float) → lt y x ≡ true → is_nan x ≡ false
unfolding lt is_nan
no_nan_above nan nan h = sym h
no_nan_above nan (inf s) h = sym h
no_nan_above nan (fin s m e) h = sym h
no_nan_above (inf s) y h = refl
no_nan_above (fin s m e) y h = refl

pub low_end : (x : Float) → lt x (neg limit) ≡ true → negsuc 32766 ≡ truncated_of x
unfolding truncated_of of_bits neg to_signed
low_end x h = rw (no_nan_below x (neg limit) h, h)

pub high_end : (x : Float) → lt x (neg limit) ≡ false → lt limit x ≡ true → pos 32767 ≡ truncated_of x
unfolding truncated_of of_bits neg to_signed
high_end x l h = rw (no_nan_above x limit h, l, h)

pub inside : (x : Float) → lt x (neg limit) ≡ false → lt limit x ≡ false → ne x x ≡ false → to_signed 15 x ≡ truncated_of x
unfolding truncated_of
inside x l h n = rw (sym (ne_self x) ∙ n, l, h)
