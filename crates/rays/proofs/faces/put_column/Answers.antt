-- `faces::put_column` meets its contract: three stores.
use native.Mathlib.Omega.{arith}
use lib.ListN.{length-set}
use Rattle.rays.proofs.faces.put_column.Goals as goal

pub bounds-rows-at-2 : goal.bounds-rows-at-2
bounds-rows-at-2 c = simp length-set (omega (arith, c.requires))
