-- The work of a search is bounded by the numbers of vertices and triangles: at most 148 margins, each at most 41,664 triples a vertex, and two rays
-- a vertex and triangle, and a vertex more that is moved first. Each sum is at most so many times the most of its parts.
use mathlib.Core.Bool.{Bool, true, false, cond}
use Prim.Native.Nat.{ℕ, zero, suc, ◌+◌, ◌*◌, ◌/◌, ◌≤◌}
use native.Mathlib.Omega.{arith}
use native.Mathlib.Nat.{mul-le-mul_left, mul-le-mul_right}
use mathlib.Core.Path.{◌≡◌, refl, ap, ◌∙◌}
use mathlib.Core.List.{List, [], ◌∷◌}
use lib.Dec.{T, eqb}
use lib.Ieee.{Float, inf, binary32, lt, fits}
use lib.ListN.{length}
use Rattle.base.specs.Lists.{up_from}
use Rattle.base.proofs.ListLaws.{length_sift}
use Rattle.base.proofs.NumberLaws.{length_up}
use Rattle.corners.specs.Corners.{there}
use Rattle.math.specs.declared.vec3.Vec3.{Vec3}
use Rattle.math.specs.Vec3s.{◌⊗◌, tolerance}
use Rattle.math.specs.Transform.{half}
use Rattle.rays.specs.Steps.Checking.{moved_in}
use Rattle.rings.specs.Firsts.{no_side, first_side}
use Rattle.rings.specs.Meshes.{Mesh, normal_in, around, by_margin}
use Rattle.rings.specs.Triples.{triples_of}
use Rattle.rings.proofs.WorkLaws.{few_triples}
use Rattle.trial.specs.Trials.{passes_at}
use Rattle.shrink.specs.Costs.{sum_to, sum_over, triples_taken, triples_from, triples_at, triples_in, triangles_in, rays_at, rays_in, rays_first}
use Rattle.shrink.specs.Costs.{tried_of, all_triples, all_rays, most_triples, most_rays, WorkWithin}
use Rattle.shrink.specs.Margins.{halved}
use Rattle.shrink.proofs.AllTried.{few_above}

-- ---- sums

sum_few : (most : ℕ) (f : ℕ → ℕ) → ((i : ℕ) → f i ≤ most) → (n : ℕ) → sum_to n f ≤ n * most
sum_few most f h zero = omega arith
sum_few most f h (suc n) = omega (arith, sum_few most f h n, h n)

over_few : (most : ℕ) (f : Float → ℕ) → ((m : Float) → f m ≤ most) → (ms : List Float) → sum_over ms f ≤ length ms * most
over_few most f h [] = omega arith
over_few most f h (m ∷ ms) = omega (arith, over_few most f h ms, h m)

-- ---- the margins that are tried

module _ (test : Float → Bool) where
  few_tried : (turns : ℕ) (m : Float) → length (tried_of test turns m) ≤ turns
  few_tried zero m = omega arith
  few_tried (suc turns) m = go (few_tried turns (m ⊗ half)) (lt tolerance m) (test m)
    where
      go : length (tried_of test turns (m ⊗ half)) ≤ turns → (a b : Bool)
          → length (cond a (m ∷ cond b [] (tried_of test turns (m ⊗ half))) []) ≤ suc turns
      go rest true true = omega arith
      go rest true false = omega arith
      go rest false b = omega arith

  -- more turns try no further margin, once one is no longer above 1e-6
  tried_stops : (n k : ℕ) (m : Float) → lt tolerance (halved n m) ≡ false → tried_of test (n + k) m ≡ tried_of test n m
  tried_stops zero zero m h = refl
  tried_stops zero (suc k) m h =
      let turns : 0 + suc k ≡ suc k = omega arith in
      ap (λ (n : ℕ). tried_of test n m) turns ∙ ap (λ (b : Bool). cond b (m ∷ cond (test m) [] (tried_of test k (m ⊗ half))) []) h
  tried_stops (suc n) k m h =
      let more : suc n + k ≡ suc (n + k) = omega arith in
      ap (λ (turns : ℕ). tried_of test turns m) more
      ∙ ap (λ (rest : List Float). cond (lt tolerance m) (m ∷ cond (test m) [] rest) []) (tried_stops n k (m ⊗ half) h)

  -- Rule S7: with any number of turns at most 148 margins are tried, whatever passes.
  pub few_margins : (k : ℕ) (m : Float) → T (fits binary32 m) → (m ≡ inf false → ⊥) → length (tried_of test (148 + k) m) ≤ 148
  few_margins k m f n = omega (arith, ap length (tried_stops 148 k m (few_above m f n)), few_tried 148 m)

-- ---- a margin's work

module _ (mesh : Mesh) where
  taken_few : (own : Vec3) (ns : List Vec3) → length (triples_of (own ∷ ns)) ≤ 41664 → triples_taken own ns ≤ 41664
  taken_few own [] h = omega arith
  taken_few own (b ∷ []) h = omega arith
  taken_few own (b ∷ c ∷ ns) h = h

  from_few : (i s : ℕ) → triples_from mesh i s ≤ 41664
  from_few i s = go (eqb s no_side)
    where
      go : (b : Bool) → cond b 0 (triples_taken (normal_in mesh (s / 3)) (around mesh i s)) ≤ 41664
      go true = omega arith
      go false = taken_few (normal_in mesh (s / 3)) (around mesh i s) (few_triples mesh i s)

  -- Rule S5: at most 41,664 triples a vertex
  pub vertex_few : (i : ℕ) → triples_at mesh i ≤ 41664
  vertex_few i = from_few i (first_side mesh.corners i (3 * mesh.n))

  triples_few : triples_in mesh ≤ mesh.v * 41664
  triples_few = sum_few 41664 (triples_at mesh) vertex_few mesh.v

  if_moved : (k : ℕ) (b : Bool) → cond b k 0 ≤ k
  if_moved k true = omega arith
  if_moved k false = omega arith

  -- Rule S6: at most two rays a vertex and triangle
  rays_few : (margin : Float) → rays_in mesh margin ≤ mesh.v * (2 * triangles_in mesh)
  rays_few margin =
      sum_few (2 * triangles_in mesh) (rays_at mesh margin) (λ i. if_moved (2 * triangles_in mesh) (moved_in mesh.vertices (by_margin mesh margin) i))
      mesh.v

  triangles_few : triangles_in mesh ≤ mesh.n
  triangles_few = omega (arith, length_sift (λ p. there mesh.corners (3 * p)) (up_from 0 mesh.n), length_up 0 mesh.n)

-- ---- the whole search's

within : (mesh : Mesh) (turns : ℕ) (start : Float) → length (tried_of (passes_at mesh) turns start) ≤ 148 → WorkWithin mesh turns start
within mesh turns start few =
    let v = mesh.v in
    let t = triangles_in mesh in
    let tried = tried_of (passes_at mesh) turns start in
    let triples : (first : Float → ℕ) → all_triples mesh first turns start ≤ length tried * ((v + 1) * 41664) = λ first.
    over_few ((v + 1) * 41664) (λ m. triples_at mesh (first m) + triples_in mesh) (λ m. omega (arith, vertex_few mesh (first m), triples_few mesh)) tried in
    let rays : (first : Float → ℕ) → all_rays mesh first turns start ≤ length tried * ((2 * v + 1) * t) = λ first.
    over_few ((2 * v + 1) * t) (λ m. rays_first mesh m (first m) + rays_in mesh m)
    (λ m. omega (arith, if_moved mesh t (moved_in mesh.vertices (by_margin mesh m) (first m)), rays_few mesh m)) tried in
    let up : (2 * v + 1) * t ≤ (2 * v + 1) * mesh.n = mul-le-mul_left (2 * v + 1) (triangles_few mesh) in
    record {
      triples = λ first. omega (arith, triples first, mul-le-mul_right ((v + 1) * 41664) few);
      rays = λ first. omega (arith, rays first, mul-le-mul_right ((2 * v + 1) * t) few);
      rays_by_polygons = λ first. omega (arith, rays first, mul-le-mul_right ((2 * v + 1) * t) few, up);
    }

-- Rules S5 to S7: whatever the margin, our search with its 148 turns takes no more triples and rays than the numbers of vertices and triangles allow;
pub work_within : (mesh : Mesh) (start : Float) → WorkWithin mesh 148 start
work_within mesh start = within mesh 148 start (few_tried (passes_at mesh) 148 start)

-- and so does the rule, which has no counter, from every margin but +∞.
pub work_of_rule : (mesh : Mesh) (k : ℕ) (start : Float) → T (fits binary32 start) → (start ≡ inf false → ⊥) → WorkWithin mesh (148 + k) start
work_of_rule mesh k start f n = within mesh (148 + k) start (few_margins (passes_at mesh) k start f n)

-- At the limits of a geometry, 32,768 vertices and 32,767 polygons: by computing.
pub most_at_limits : (most_triples 32768 ≡ 202062567168) × (most_rays 32768 32767 ≡ 317822730092)
most_at_limits = (refl, refl)
