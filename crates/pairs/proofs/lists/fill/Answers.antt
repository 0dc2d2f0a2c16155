-- `lists::fill` meets its contract: the first i entries are written, and s is the number after them.
use Rattle.std.proofs.Common.{◌∙◌, arith}
use Rattle.pairs.proofs.DrawLaws.{number_next, entry_next}
use Rattle.pairs.proofs.lists.fill.Goals as goal

pub loop-i-preserved : goal.loop-i-preserved
loop-i-preserved c =
    let l = c.loop-i in
    let start = c.args in (
      c.put_entry-s.auto.entries ∙ l.invariant.0,
      number_next start.shape.seed l.i l.invariant.1 c.put_entry-s.ensures.value,
      entry_next start.shape l.i start.entries.now l.invariant.1 l.invariant.2 (omega arith) c.put_entry-s.ensures.entries_after,
    )
