-- A node value that does not wrap, as the whole part of a float. Definitions only.
use Rattle.std.specs.Prelude.{ℕ, ◌+◌, ◌*◌, ◌≤◌, ◌<◌, ◌≡◌, T, Float}
use Rattle.std.specs.Float.{binary32}
use Rattle.std.specs.Float.Ieee.{of_bits, lt, neg}
use Rattle.std.specs.Float.Ieee.Positive.{den}
use Rattle.std.specs.Float.Ieee.Scale.{finite}
use Rattle.float32.specs.Casts.{short_of}
use Rattle.float32.specs.Signed.{over, under}
use Rattle.math.specs.declared.vec3.Vec3.{Vec3}
use Rattle.records.specs.declared.BoundVertex.{BoundVertex}

-- 32768.0
abbrev pub edge : Float
edge = of_bits binary32 0x4700_0000

-- -32768 < x < 32768
abbrev pub Inside : Float → Type 0
Inside x = T (lt (neg edge) x) × T (lt x edge)

-- n is the whole part of a, which is not below zero
pub record Whole (n : ℕ) (a : Float) : Type 0 where
  pub number : T (finite a)
  pub above : under a ≡ 0
  pub from : n * den a ≤ over a
  pub upto : over a < (n + 1) * den a
  pub small : n < 32768

-- on each axis
abbrev pub InsideAll : Vec3 → Type 0
InsideAll d = Inside d.x × Inside d.y × Inside d.z

-- Rule F8, axis by axis
abbrev pub shorts_of : Vec3 → BoundVertex
shorts_of d = record { 0 = short_of d.x; 1 = short_of d.y; 2 = short_of d.z }
