-- `put_list`, by the invariant `Putting`.
use Rattle.octant_bytes.proofs.Laying.{start, one_more, all_put}
use Rattle.std.proofs.Common.{arith}
use Rattle.octant_bytes.proofs.put_list.Goals as goal

pub loop-i-init : goal.loop-i-init
loop-i-init c = start _ _ _

pub put_word-requires : goal.put_word-requires
put_word-requires c = omega (arith, c.loop-i.invariant.len, c.requires)

pub loop-i-preserved : goal.loop-i-preserved
loop-i-preserved c = one_more _ _ _ _ _ _ c.loop-i.invariant (omega arith) c.put_word.ensures

pub returns : goal.returns
returns c = all_put _ _ _ _ _ c.loop-i.invariant (omega arith)
