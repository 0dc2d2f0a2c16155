-- `gather` meets its contract. The invariant is `Gathering`: what is kept of the vertices passed stands at the start.
use mathlib.Core.Path.{refl}
use Rattle.maxima.proofs.Keeping.{admissible, one_more, gathered}
use native.Mathlib.Omega.{arith}
use Rattle.maxima.proofs.kept.gather.Goals as goal

pub loop-i-init : goal.loop-i-init
loop-i-init c = record { upto = omega arith; len = refl; so_far = record { count = refl; list = refl } }

pub admit-s-requires : goal.admit-s-requires
admit-s-requires c =
    admissible _ _ _ _ _ _ c.loop-i.invariant (omega arith) c.requires.0 c.requires.1 c.if-s-kept.false

pub loop-i-preserved : goal.loop-i-preserved
loop-i-preserved c =
    one_more _ _ _ _ _ _ c.loop-i.invariant (omega arith) _ _ c.admit-s.auto.kept c.admit-s.ensures

pub returns : goal.returns
returns c = gathered _ _ _ _ _ _ c.loop-i.invariant (omega arith)
