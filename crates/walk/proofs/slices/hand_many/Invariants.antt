-- `slices::hand_many` meets its contract. The loop's invariant: the first i positions are stored.
use Rattle.base.specs.Lists.{up_from}
use Rattle.std.specs.Prelude.{◌≡◌}
use lib.Seq.{sets}
use Rattle.walk.proofs.slices.hand_many.Given as goal

abbrev pub invariant-loop-i : goal.invariant-loop-i
invariant-loop-i l = l.out ≡ sets l.initial.out l.from (up_from l.id l.i)
