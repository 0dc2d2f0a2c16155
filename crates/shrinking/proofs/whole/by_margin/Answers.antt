-- `whole::by_margin` meets its contract: what rules S1 to S8 ask, by the laws of WholeLaws.
use Rattle.shrinking.proofs.WholeLaws.{shrinkable}
use native.Mathlib.Omega.{arith}
use Rattle.shrinking.proofs.whole.by_margin.Goals as goal

pub shrink-requires : goal.shrink-requires
shrink-requires c =
    let r = c.compact-t in
    shrinkable c.requires _ _ _ _ r.auto.tri r.ensures.0
    r.ensures.1 (omega arith) (omega arith)

pub returns : goal.returns
returns c = c.shrink.ensures
