-- `put_written` meets its contract. The loop's invariant: the records before i are written, and nothing else is changed.
use Rattle.std.proofs.Common.{◌≡◌}
use Rattle.base.specs.Lists.{over}
use Rattle.linking.specs.Written.{written_of}
use Rattle.linking.proofs.put_written.Given as goal

abbrev pub invariant-loop-i : goal.invariant-loop-i
invariant-loop-i l = l.out ≡ over (written_of l.i l.polygons) l.initial.out
