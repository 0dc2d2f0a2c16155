-- The work of rules S5 to S7, counted on their steps: triples of normals that are taken, and rays that are tested against a triangle. Definitions only.
use Rattle.std.specs.Prelude.{ℕ, zero, suc, ◌+◌, ◌*◌, ◌/◌, ◌≤◌, Bool, cond, List, [], ◌∷◌, eqb, Float, length}
use Rattle.std.specs.Float.Ieee.{lt}
use Rattle.math.specs.declared.vec3.Vec3.{Vec3}
use Rattle.math.specs.Vec3s.{◌⊗◌, tolerance}
use Rattle.math.specs.Transform.{half}
use Rattle.rays.specs.Checks.{triangles_of}
use Rattle.rays.specs.Steps.Checking.{moved_in}
use Rattle.rings.specs.Firsts.{no_side, first_side}
use Rattle.rings.specs.Meshes.{Mesh, normal_in, around, by_margin}
use Rattle.rings.specs.Triples.{triples_of}
use Rattle.trial.specs.Trials.{passes_at}

-- the sum over the numbers below n, and over a list of margins
abbrev pub sum_to : ℕ → (ℕ → ℕ) → ℕ
sum_to zero f = 0
sum_to (suc n) f = sum_to n f + f n

abbrev pub sum_over : List Float → (Float → ℕ) → ℕ
sum_over [] f = 0
sum_over (m ∷ ms) f = f m + sum_over ms f

-- Rule S5: of one normal no triple is taken, of two one, with the third that is square to both, and of more each three once.
abbrev pub triples_taken : Vec3 → List Vec3 → ℕ
triples_taken own [] = 0
triples_taken own (b ∷ []) = 1
triples_taken own (b ∷ c ∷ ns) = length (triples_of (own ∷ b ∷ c ∷ ns))

-- Rules S3 and S5: the triples of vertex i, whose first side is s, and of all vertices, which each margin takes anew
abbrev pub triples_from : Mesh → ℕ → ℕ → ℕ
triples_from mesh i s = cond (eqb s no_side) 0 (triples_taken (normal_in mesh (s / 3)) (around mesh i s))

abbrev pub triples_at : Mesh → ℕ → ℕ
triples_at mesh i = triples_from mesh i (first_side mesh.corners i (3 * mesh.n))

abbrev pub triples_in : Mesh → ℕ
triples_in mesh = sum_to mesh.v (triples_at mesh)

abbrev pub triangles_in : Mesh → ℕ
triangles_in mesh = length (triangles_of mesh.corners mesh.n)

-- Rule S6: a vertex that moved has its ray tested against each triangle twice, as it was and shrunk. A check that ends early tests fewer.
abbrev pub rays_at : Mesh → Float → ℕ → ℕ
rays_at mesh margin i = cond (moved_in mesh.vertices (by_margin mesh margin) i) (2 * triangles_in mesh) 0

abbrev pub rays_in : Mesh → Float → ℕ
rays_in mesh margin = sum_to mesh.v (rays_at mesh margin)

-- Our search moves a vertex of each margin first, the one that failed before, and tests its ray against each triangle as it was.
abbrev pub rays_first : Mesh → Float → ℕ → ℕ
rays_first mesh margin i = cond (moved_in mesh.vertices (by_margin mesh margin) i) (triangles_in mesh) 0

-- Rule S7: of at most `left` margins those that are tried: each is above 1e-6, and none before it passed.
abbrev pub tried_of : (Float → Bool) → ℕ → Float → List Float
tried_of test zero m = []
tried_of test (suc left) m = cond (lt tolerance m) (m ∷ cond (test m) [] (tried_of test left (m ⊗ half))) []

-- Rules S5 to S7: all the triples and rays of a search that begins with the margin `start` and has so many turns at most. The vertex `first m` is
-- the one that is moved first at margin m, and then once more with the others.
abbrev pub all_triples : Mesh → (Float → ℕ) → ℕ → Float → ℕ
all_triples mesh first turns start = sum_over (tried_of (passes_at mesh) turns start) (λ m. triples_at mesh (first m) + triples_in mesh)

abbrev pub all_rays : Mesh → (Float → ℕ) → ℕ → Float → ℕ
all_rays mesh first turns start = sum_over (tried_of (passes_at mesh) turns start) (λ m. rays_first mesh m (first m) + rays_in mesh m)

-- The most that they can be, by the numbers of vertices and triangles alone: 148 margins, 41,664 triples a vertex, two rays a vertex and triangle.
abbrev pub most_triples : ℕ → ℕ
most_triples v = 148 * ((v + 1) * 41664)

abbrev pub most_rays : ℕ → ℕ → ℕ
most_rays v t = 148 * ((2 * v + 1) * t)

-- The work keeps within them, whichever vertices are moved first.
pub record WorkWithin (mesh : Mesh) (turns : ℕ) (start : Float) : Type 0 where
  pub triples : (first : Float → ℕ) → all_triples mesh first turns start ≤ most_triples mesh.v
  pub rays : (first : Float → ℕ) → all_rays mesh first turns start ≤ most_rays mesh.v (triangles_in mesh)
  pub rays_by_polygons : (first : Float → ℕ) → all_rays mesh first turns start ≤ most_rays mesh.v mesh.n
