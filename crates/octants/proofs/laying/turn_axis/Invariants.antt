-- `turn_axis` meets its contract. The invariant is `Filling`.
use Prim.Native.Nat.{◌+◌}
use lib.ListN.{get_or}
use Rattle.shadows.specs.Nearness.{turned}
use Rattle.octants.proofs.PartLaws.{Filling}
use Rattle.octants.proofs.laying.turn_axis.Given as goal

abbrev pub invariant-loop-p : goal.invariant-loop-p
invariant-loop-p l = Filling (λ q. turned l.falls (get_or l.keys (l.at + q) 0)) l.n l.at l.initial.rows l.rows l.p
