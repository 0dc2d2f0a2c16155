-- `clamp::clamp_points` meets its contract. The loop's invariant: the points before i are clamped, and those from i on are as they were.
use mathlib.Core.Path.{◌≡◌}
use Prim.Native.Nat.{ℕ, ◌*◌}
use mathlib.Core.List.{List}
use lib.ListN.{length, take, drop}
use Rattle.math.specs.declared.aabb.Aabb.{Aabb}
use Rattle.corners.specs.Corners.{in_turn}
use Rattle.points.specs.Points.{vertex_at, words_of}
use Rattle.shrink.specs.Clamping.{clamp_of}
use Rattle.shrink.proofs.clamp.clamp_points.Given as goal

pub record Going (before : List ℕ) (v : ℕ) (b : Aabb) (points : List ℕ) (i : ℕ) : Type 0 where
  pub same_length : length points ≡ length before
  pub size : length points ≡ 3 * v
  pub written : take (3 * i) points ≡ in_turn i (λ k. words_of (clamp_of b (vertex_at before k)))
  pub behind : drop (3 * i) points ≡ drop (3 * i) before

abbrev pub invariant-loop-i : goal.invariant-loop-i
invariant-loop-i l = Going l.initial.points l.v l.b l.points l.i
