-- `triangles::put_triangle` meets its contract: three stores.
use lib.ListN.{length-set}
use native.Mathlib.Omega.{arith}
use Rattle.rays.proofs.triangles.put_triangle.Goals as goal

pub bounds-tri-t : goal.bounds-tri-t
bounds-tri-t c = simp length-set (omega (arith, c.requires))

pub bounds-tri-t-2 : goal.bounds-tri-t-2
bounds-tri-t-2 c = simp length-set (omega (arith, c.requires))
