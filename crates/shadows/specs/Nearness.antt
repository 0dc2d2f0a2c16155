-- Shadowing in one order for all octants: keys turned so that the lesser is the further. Definitions only.
use Rattle.std.specs.Prelude.{ℕ, ◌-◌, Bool, true, false, not, cond, ◌&&◌, List, leb, eqb}
use Rattle.float32.specs.SortOrder.{key_of}
use Rattle.math.specs.declared.words3.Words3.{Words3}
use Rattle.shadows.specs.Shadows.{falls_x, falls_y, falls_z}
use Rattle.shadows.specs.Octants.{words_at}

-- a key, turned about the zeros' where the direction rises; a NaN's stays 0
abbrev pub turned : Bool → ℕ → ℕ
turned true k = k
turned false k = cond (eqb k 0) 0 (0x1_0000_0000 - k)

-- how near a stored vertex is on each axis
unfoldable pub nearness_of : ℕ → Words3 → Words3
nearness_of o w = record { x = turned (falls_x o) (key_of w.x); y = turned (falls_y o) (key_of w.y); z = turned (falls_z o) (key_of w.z) }

-- the far and the near infinity
abbrev pub furthest : ℕ
furthest = 0x0080_0000

abbrev pub nearest : ℕ
nearest = 0xff80_0000

-- no NaN, and not at that end
abbrev pub inside_of : ℕ → ℕ → Bool
inside_of t end = not (eqb t 0) && not (eqb t end)

-- no NaN, and not the far infinity; no NaN, and not the near one
abbrev pub hides : ℕ → Bool
hides t = inside_of t furthest

abbrev pub casts : ℕ → Bool
casts t = inside_of t nearest

-- Rule O1: what can be shadowed, and what can shadow.
unfoldable pub hideable : Words3 → Bool
hideable a = hides a.x && (hides a.y && hides a.z)

unfoldable pub caster : Words3 → Bool
caster b = casts b.x && (casts b.y && casts b.z)

-- Rule O1, in one order: a is shadowed by b.
unfoldable pub near_shadowed : Words3 → Words3 → Bool
unfolding hideable caster
near_shadowed a b = hideable a && (caster b && (leb b.x a.x && (leb b.y a.y && leb b.z a.z)))

-- the nearness of vertex i
abbrev pub nearness_at : ℕ → List ℕ → ℕ → Words3
nearness_at o ws i = nearness_of o (words_at ws i)
