-- `put_point` meets its contract: three stores.
use mathlib.Core.Path.{◌≡◌}
use Prim.Native.Nat.{suc, ◌+◌, ◌*◌}
use native.Mathlib.Omega.{arith}
use lib.ListN.{length-set, set}
use Rattle.points.proofs.put_point.Goals as goal

pub bounds-points-at-2 : goal.bounds-points-at-2
bounds-points-at-2 c = simp length-set (omega (arith, c.requires))

pub bounds-points-at-3 : goal.bounds-points-at-3
bounds-points-at-3 c = simp length-set (omega (arith, c.requires))

pub returns : goal.returns
returns c =
    let a = c.args in
    let w = c.bits-w.ensures in
    let second : 3 * a.i + 1 ≡ suc (3 * a.i) = omega arith in
    let third : 3 * a.i + 2 ≡ suc (suc (3 * a.i)) = omega arith in
    λ i. set (set (set a.points.now (3 * a.i) (w i).x) (second i) (w i).y) (third i) (w i).z
