-- `triangles::put_triangles` meets its contract. The loop's invariant: the triangles before p stand in the rows.
use Rattle.rays.proofs.TriangleLaws.{Laying}
use Rattle.rays.proofs.triangles.put_triangles.Given as goal

abbrev pub invariant-loop-p : goal.invariant-loop-p
invariant-loop-p l = Laying l.corners l.n l.initial.tri l.tri l.t l.k l.p
