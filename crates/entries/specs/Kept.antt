-- The centres that are kept of a list of entries. Definitions only.
use Rattle.std.specs.Prelude.{ℕ, ◌+◌, ◌*◌, ◌≤◌, List, ◌≡◌, length, get_or, Float}
use Rattle.std.specs.Float.Ieee.{neg}
use Rattle.std.specs.Float.{nan}
use Rattle.math.specs.declared.vec3.Vec3.{Vec3}
use Rattle.entries.specs.declared.average.Lanes.{Lanes}
use Rattle.entries.specs.Average.{centre_of}
use Rattle.entries.specs.Boxes.{box_at}

-- the four lanes of a place
abbrev pub lanes_at : List Float → ℕ → Lanes
lanes_at cs p = record { x = get_or cs (4 * p) nan; y = get_or cs (4 * p + 1) nan; z = get_or cs (4 * p + 2) nan; w = get_or cs (4 * p + 3) nan }

-- a centre, and x with the other sign
abbrev pub lanes_of : Vec3 → Lanes
lanes_of v = record { x = v.x; y = v.y; z = v.z; w = neg v.x }

-- Rule T3: each entry's lanes are there, and hold the centre of its box, and its x with the other sign.
pub record Kept (ws : List ℕ) (cs : List Float) : Type 0 where
  pub room : 4 * length ws ≤ 7 * length cs
  pub lanes : (p : ℕ) → 7 * p + 7 ≤ length ws → lanes_at cs p ≡ lanes_of (centre_of (box_at ws p))
