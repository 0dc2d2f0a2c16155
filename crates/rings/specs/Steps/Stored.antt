-- Normals that lie as floats, three a normal, first sides that lie in a list, and a ring. Definitions only.
use Rattle.std.specs.Prelude.{ℕ, zero, suc, ◌+◌, ◌*◌, ◌≤◌, ◌<◌, Bool, cond, ◌&&◌, List, [], ◌∷◌, ◌⊎◌, ◌≡◌, eqb, ltb, length, get_or, take, set, Float}
use Rattle.std.specs.Float.{nan}
use Rattle.corners.specs.Corners.{none}
use Rattle.math.specs.declared.vec3.Vec3.{Vec3}
use Rattle.rings.specs.declared.moving.Push.{Push}
use Rattle.rings.specs.declared.moving.Reach.{Reach}
use Rattle.rings.specs.Firsts.{no_side, first_side}
use Rattle.rings.specs.Moving.{way_of}
use Rattle.rings.specs.Normals.{polygon_normal}

-- ---- normals

abbrev pub normal_at : List Float → ℕ → Vec3
normal_at fs i = record { x = get_or fs (3 * i) nan; y = get_or fs (3 * i + 1) nan; z = get_or fs (3 * i + 2) nan }

-- k normals from number i on
abbrev pub normals_from : List Float → ℕ → ℕ → List Vec3
normals_from fs i zero = []
normals_from fs i (suc k) = normal_at fs i ∷ normals_from fs (i + 1) k

-- a normal stored as number i
abbrev pub put_normal : List Float → ℕ → Vec3 → List Float
put_normal fs i p = set (set (set fs (3 * i) p.x) (3 * i + 1) p.y) (3 * i + 2) p.z

-- The floats hold the normals of the first k polygons.
pub record Normals (corners ws : List ℕ) (v : ℕ) (fs : List Float) (k : ℕ) : Type 0 where
  pub normals : (p : ℕ) → p < k → normal_at fs p ≡ polygon_normal corners ws v p

-- a point and the square of the way to it
abbrev pub reach_of : Push → Vec3 → Reach
reach_of m x = record { point = x; way = way_of m x }

-- ---- first sides

-- the first side, where s is one side more, and the vertex stands there or not
abbrev pub or_side : ℕ → Bool → ℕ → ℕ
or_side first here s = cond (eqb first no_side) (cond here s no_side) first

-- the list with side s for vertex i of v, unless it has an earlier one
unfoldable pub noted : List ℕ → ℕ → ℕ → ℕ → List ℕ
noted firsts v i s = cond (ltb i v && eqb (get_or firsts i 0) no_side) (set firsts i s) firsts

-- None of v vertices has a side yet.
pub record NoSides (v : ℕ) (firsts : List ℕ) : Type 0 where
  pub sides : (i : ℕ) → i < v → get_or firsts i 0 ≡ no_side

-- The list holds the first side of each of v vertices, of the sides below s.
pub record Firsts (corners : List ℕ) (s v : ℕ) (firsts : List ℕ) : Type 0 where
  pub sides : (i : ℕ) → i < v → get_or firsts i 0 ≡ first_side corners i s

-- ---- rings

-- a polygon of the n, or none
abbrev pub Neighbour : ℕ → ℕ → Type 0
Neighbour n p = (p ≡ none) ⊎ (p < n)

-- Every link of n polygons is none or one of them.
pub record Linked (corners links : List ℕ) (n : ℕ) : Type 0 where
  pub corners_in : 3 * n ≤ length corners
  pub links_in : 3 * n ≤ length links
  pub few : n < 32768
  pub within : (s : ℕ) → s < 3 * n → Neighbour n (get_or links s 0)

-- The list begins with the numbers xs, of which there are r.
pub record Begins (xs list : List ℕ) (r : ℕ) : Type 0 where
  pub numbers : take r list ≡ xs
  pub count : r ≡ length xs
