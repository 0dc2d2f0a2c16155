-- `put_list`, by the invariant `Putting`.
use native.Mathlib.Omega.{arith}
use mathlib.Core.Path.{◌≡◌}
use Rattle.materials.proofs.listing.Putting.{start, one_more}
use Rattle.materials.proofs.listing.put_list.Goals as goal

pub loop-i-init : goal.loop-i-init
loop-i-init c = start _ _

pub loop-i-preserved : goal.loop-i-preserved
loop-i-preserved c =
    let p = c.requires in
    one_more _ _ _ _ _ c.loop-i.invariant (omega (arith, p.0)) (omega (arith, p.1)) c.put_le.ensures

pub returns : goal.returns
returns c =
    let l = c.loop-i in
    let e : l.i ≡ c.args.count = omega arith in
    rw e at l.invariant.put
