-- `triangles::count_triangles` meets its contract. The loop's invariant: t counts the triangles before p.
use Prim.Native.Nat.{◌≤◌}
use mathlib.Core.Path.{◌≡◌}
use lib.ListN.{length}
use Rattle.rays.specs.Checks.{triangles_of}
use Rattle.rays.proofs.triangles.count_triangles.Given as goal

abbrev pub invariant-loop-p : goal.invariant-loop-p
invariant-loop-p l = (l.t ≤ l.p) × (l.t ≡ length (triangles_of l.corners l.p))
