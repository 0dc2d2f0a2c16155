-- `moving::put_pushed` meets its contract. The loop's invariant: the vertices before i are moved, and the sums from i on are as they were.
use mathlib.Core.Path.{◌≡◌}
use Prim.Native.Nat.{ℕ, ◌*◌, ◌≤◌, ◌<◌}
use mathlib.Core.List.{List}
use lib.ListN.{length, take, drop}
use lib.Ieee.{Float}
use Rattle.math.specs.declared.vec3.Vec3.{Vec3}
use Rattle.corners.specs.Corners.{in_turn}
use Rattle.points.specs.Points.{vertex_at, words_of}
use Rattle.by_normals.specs.Normals.{pushed_of}
use Rattle.by_normals.proofs.moving.put_pushed.Given as goal

pub record Pushing (vertices : List ℕ) (v : ℕ) (by : Float) (before points : List ℕ) (i : ℕ) : Type 0 where
  pub same_length : length points ≡ length before
  pub size : length points ≡ 3 * v
  pub written : (sum : ℕ → Vec3) → ((k : ℕ) → k < v → vertex_at before k ≡ sum k)
      → take (3 * i) points ≡ in_turn i (λ k. words_of (pushed_of (vertex_at vertices k) (sum k) by))
  pub behind : drop (3 * i) points ≡ drop (3 * i) before

abbrev pub invariant-loop-i : goal.invariant-loop-i
invariant-loop-i l = Pushing l.vertices l.v l.by l.initial.points l.points l.i
