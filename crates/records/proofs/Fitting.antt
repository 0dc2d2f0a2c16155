-- What quantising gives is an i16 on each axis, for every float. Assumes nothing.
use mathlib.Core.Bool.{Bool, true, false, cond}
use lib.IntN.{pos}
use lib.Ieee.{Float, is_nan, neg, to_signed}
use lib.Ieee.Casts.{to_signed_in}
use mir.Syntax.{w16}
use mir.Val.{SFits}
use mir.Facts.{sfits_lit}
use Rattle.float32.specs.Casts.{cast_i32, low16bits, short_of, clamp_of, limit, truncated_of}
use Rattle.float32.proofs.Wrap.{signed_fits}
use Rattle.math.specs.declared.vec3.Vec3.{Vec3}
use Rattle.math.specs.declared.words3.Words3.{Words3}
use Rattle.records.specs.Quantise.{quantise_of, quantise_query_of}
use Rattle.records.specs.Records.{VertexFits}

pub short_fits : (x : Float) → SFits w16 (short_of x)
unfolding short_of
short_fits x = signed_fits (low16bits (cast_i32 x))

either : (b : Bool) (x : Float) → SFits w16 (cond b (pos 0) (to_signed 15 x))
either true x = sfits_lit tt
either false x = record { sfits = to_signed_in 15 x }

pub truncated_fits : (x : Float) → SFits w16 (truncated_of x)
unfolding truncated_of
truncated_fits x = either (is_nan x) (clamp_of (neg limit) limit x)

pub quantise_fits : (v : Words3) (cen inverse : Vec3) → VertexFits (quantise_of v cen inverse)
unfolding quantise_of
quantise_fits v cen inverse = (short_fits _, short_fits _, short_fits _)

pub query_fits : (v cen inverse : Vec3) → VertexFits (quantise_query_of v cen inverse)
unfolding quantise_query_of
query_fits v cen inverse = (truncated_fits _, truncated_fits _, truncated_fits _)
