-- `halves::half_of` meets its contract: widening v to an i32 changes no number, and its low 16 bits fit a u16.
use mathlib.Core.Path.{ap, subst, sym, ◌∙◌}
use Prim.Native.Nat.{ℕ, ◌<◌}
use lib.IntN.{ℤ}
use mir.Syntax.{w16, w32}
use mir.Val.{SFits, to_z, of_z}
use mir.Facts.{to_z-of_z, sfits_widen}
use Rattle.float32.specs.Casts.{low16bits}
use Rattle.float32.proofs.Low16.{low_lt}
use Rattle.polygon.proofs.halves.half_of.Goals as goal

-- v as an i16 and as an i32
short_read : {v : ℤ} → SFits w16 v → SFits w32 (to_z w16 (of_z w16 v))
short_read f = subst (λ (z : ℤ). SFits w32 z) (sym (to_z-of_z f)) (sfits_widen tt f)

pub overflow_cast-v : goal.overflow_cast-v
overflow_cast-v c = short_read c.ranges.v

pub overflow_cast-result : goal.overflow_cast-result
overflow_cast-result c =
    let v = to_z w32 (of_z w32 (to_z w16 (of_z w16 c.args.v))) in
    record { fits = subst (λ (b : ℕ). b < 65536) (sym c.low_bits.ensures) (low_lt v) }

pub returns : goal.returns
returns c =
    let f = c.ranges.v in
    c.low_bits.ensures ∙ ap low16bits (to_z-of_z (short_read f) ∙ to_z-of_z f)
