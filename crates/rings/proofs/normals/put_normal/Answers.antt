-- `normals::put_normal` meets its contract: three stores.
use native.Mathlib.Omega.{arith}
use lib.ListN.{length-set}
use Rattle.rings.proofs.normals.put_normal.Goals as goal

pub bounds-ns-at-2 : goal.bounds-ns-at-2
bounds-ns-at-2 c = simp length-set (omega (arith, c.requires))

pub bounds-ns-at-3 : goal.bounds-ns-at-3
bounds-ns-at-3 c = simp length-set (omega (arith, c.requires))
