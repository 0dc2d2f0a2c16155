-- `past_corners`: the corners before the next are below `past`.
use Rattle.side_chains.proofs.chains.Entering.{past_small, past_more}
use native.Mathlib.Omega.{arith}
use Rattle.side_chains.proofs.chains.past_corners.Goals as goal

pub past_corner-past-requires : goal.past_corner-past-requires
past_corner-past-requires c = c.requires.fit c.loop-corner.corner-index

pub loop-corner-preserved : goal.loop-corner-preserved
loop-corner-preserved c =
    let l = c.loop-corner in
    rw c.past_corner-past.ensures
    (past_small _ c.requires _ _ (omega arith) l.invariant.0, past_more c.args.corners.now _ _ l.invariant.1)

pub returns : goal.returns
returns c =
    let l = c.loop-corner in
    (l.invariant.0, λ t h. l.invariant.1 t (omega arith))
