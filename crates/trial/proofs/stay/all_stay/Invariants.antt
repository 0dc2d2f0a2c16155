-- `stay::all_stay` meets its contract. The loop's invariant: the words of the vertices before i are written, and none of these moved.
use mathlib.Core.Path.{◌≡◌}
use mathlib.Core.Bool.{true}
use Prim.Native.Nat.{ℕ, ◌*◌}
use mathlib.Core.List.{List}
use lib.ListN.{length, take}
use lib.Ieee.{Float, neg}
use Rattle.corners.specs.Corners.{in_turn}
use Rattle.rays.specs.Steps.Checking.{moved_in}
use Rattle.rays.specs.Steps.Counting.{none_to}
use Rattle.points.specs.Points.{words_of}
use Rattle.rings.specs.Meshes.{Mesh, mesh_of, shrunk_at, by_margin}
use Rattle.trial.proofs.stay.all_stay.Given as goal

pub record Staying (mesh : Mesh) (margin by : Float) (ring₀ : List ℕ) (ns₀ : List Float) (points₀ ring : List ℕ) (ns : List Float) (points : List ℕ)
    (i : ℕ) : Type 0 where
  pub by-is : by ≡ neg margin
  pub ring-length : length ring ≡ length ring₀
  pub ns-length : length ns ≡ length ns₀
  pub points-length : length points ≡ length points₀
  pub size : length points ≡ 3 * mesh.v
  pub written : take (3 * i) points ≡ in_turn i (λ i. words_of (shrunk_at mesh (neg margin) i))
  pub still : none_to i (moved_in mesh.vertices (by_margin mesh margin)) ≡ true

abbrev pub invariant-loop-i : goal.invariant-loop-i
invariant-loop-i l = Staying (mesh_of l.corners l.links l.n l.vertices l.v) l.margin l.by l.initial.ring l.initial.ns l.initial.points l.ring l.ns l.points l.i
