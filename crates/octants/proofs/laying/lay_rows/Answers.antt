-- `lay_rows`: four parts, one after the other.
use Rattle.shadows.specs.Ranks.{cast_of, hide_of}
use Rattle.octants.proofs.PartLaws.{laid}
use Rattle.octants.proofs.laying.lay_rows.Goals as goal

pub returns : goal.returns
returns c =
    λ ws k. laid c.args.octant _ ws _ _ _ _ _ _ k c.turn_axis.ensures c.turn_axis-2.ensures (c.put_ranks.ensures cast_of (λ a r e. cc))
    (c.put_ranks-2.ensures hide_of (λ a r e. cc))
