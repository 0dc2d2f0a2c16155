-- The points before i are those of the whole list: so each can be held against its vertex once it is written.
use Prim.Native.Nat.{ℕ, ◌+◌, ◌*◌, ◌≤◌, ◌<◌}
use native.Mathlib.Omega.{arith}
use mathlib.Core.Path.{◌≡◌, refl, sym, ap, ◌∙◌}
use mathlib.Core.List.{List, ◌++◌}
use lib.ListN.{length, get_or, take, drop, length-append, get_or-append}
use lib.Seq.{get_or-take, get_or-append-add, length-take-le, sets, sets-eq}
use lib.Ieee.{Float, neg}
use Rattle.corners.specs.Corners.{in_turn}
use Rattle.corners.proofs.CornerLaws.{part_in_turn}
use Rattle.math.specs.declared.vec3.Vec3.{Vec3}
use Rattle.math.specs.Stored.{values_of}
use Rattle.rays.specs.Steps.Checking.{has_moved, moved_in}
use Rattle.points.specs.Points.{vertex_at, words_of}
use Rattle.rings.specs.Meshes.{Mesh, shrunk_at, by_margin}

module _ (at : ℕ → Vec3) (i : ℕ) where
  pub point_there : (points : List ℕ) (v : ℕ) → i < v → take (3 * (i + 1)) points ≡ in_turn (i + 1) (λ i. words_of (at i))
      → vertex_at points i ≡ vertex_at (in_turn v (λ i. words_of (at i))) i
  point_there points v h e =
      let f : ℕ → List ℕ = λ i. words_of (at i) in
      let part : (k : ℕ) → k < 3 → get_or points (3 * i + k) 0 ≡ get_or (in_turn v f) (3 * i + k) 0 = λ k l.
      sym (get_or-take (3 * (i + 1)) points (3 * i + k) 0 (omega arith))
      ∙ ap (λ (ws : List ℕ). get_or ws (3 * i + k) 0) e
      ∙ part_in_turn 3 f (i + 1) (λ p b. refl) i k (omega arith) l
      ∙ sym (part_in_turn 3 f v (λ p b. refl) i k h l) in
      let zero-on : 3 * i ≡ 3 * i + 0 = omega arith in
      let x : get_or points (3 * i) 0 ≡ get_or (in_turn v f) (3 * i) 0 =
      ap (λ (k : ℕ). get_or points k 0) zero-on ∙ part 0 (omega arith) ∙ sym (ap (λ (k : ℕ). get_or (in_turn v f) k 0) zero-on) in
      λ j. values_of (record { x = x j; y = part 1 (omega arith) j; z = part 2 (omega arith) j })

-- a vertex that is written, held against what it was
pub compared : (mesh : Mesh) (margin : Float) (points : List ℕ) (i : ℕ) → i < mesh.v
    → take (3 * (i + 1)) points ≡ in_turn (i + 1) (λ i. words_of (shrunk_at mesh (neg margin) i)) → (a b : Vec3) → a ≡ vertex_at mesh.vertices i
    → b ≡ vertex_at points i → has_moved a b ≡ moved_in mesh.vertices (by_margin mesh margin) i
unfolding by_margin
compared mesh margin points i h e a b x y = λ j. has_moved (x j) ((y ∙ point_there (shrunk_at mesh (neg margin)) i points mesh.v h e) j)

-- ---- one point alone

-- a point that is stored is the one of the whole list
pub stored_there : (mesh : Mesh) (margin : Float) (points : List ℕ) (i : ℕ) → i < mesh.v → 3 * i + 3 ≤ length points
    → vertex_at (sets points (3 * i) (words_of (shrunk_at mesh (neg margin) i))) i ≡ vertex_at (by_margin mesh margin) i
unfolding by_margin
stored_there mesh margin points i h room =
    let f : ℕ → List ℕ = λ i. words_of (shrunk_at mesh (neg margin) i) in
    let front = take (3 * i) points in
    let long : length front ≡ 3 * i = length-take-le (3 * i) points (omega arith) in
    let part : (k : ℕ) → k < 3 → get_or (sets points (3 * i) (f i)) (3 * i + k) 0 ≡ get_or (in_turn mesh.v f) (3 * i + k) 0 = λ k l.
    let at : 3 * i + k ≡ length front + k = omega (arith, long) in
    ap (λ (ws : List ℕ). get_or ws (3 * i + k) 0) (sets-eq (f i) points (3 * i) room)
    ∙ get_or-append (front ++ f i) (drop (3 * i + 3) points) 0 (3 * i + k) (omega (arith, length-append front (f i), long))
    ∙ ap (λ (j : ℕ). get_or (front ++ f i) j 0) at
    ∙ get_or-append-add front (f i) k 0
    ∙ sym (part_in_turn 3 f mesh.v (λ p b. refl) i k h l) in
    let zero-on : 3 * i ≡ 3 * i + 0 = omega arith in
    let x : get_or (sets points (3 * i) (f i)) (3 * i) 0 ≡ get_or (in_turn mesh.v f) (3 * i) 0 =
    ap (λ (k : ℕ). get_or (sets points (3 * i) (f i)) k 0) zero-on ∙ part 0 (omega arith)
    ∙ sym (ap (λ (k : ℕ). get_or (in_turn mesh.v f) k 0) zero-on) in
    λ j. values_of (record { x = x j; y = part 1 (omega arith) j; z = part 2 (omega arith) j })
