-- `turn_axis` meets its contract. The invariant is `Filling`.
use Rattle.octants.proofs.PartLaws.{unfilled, fill_more, filled}
use native.Mathlib.Omega.{arith}
use Rattle.octants.proofs.laying.turn_axis.Goals as goal

pub loop-p-init : goal.loop-p-init
loop-p-init c = unfilled _ _ _ _

pub loop-p-preserved : goal.loop-p-preserved
loop-p-preserved c =
    fill_more _ _ _ _ _ _ _ c.loop-p.invariant (omega arith) c.requires.1 c.turned.ensures

pub returns : goal.returns
returns c = filled _ _ _ _ _ _ c.loop-p.invariant (omega arith)
