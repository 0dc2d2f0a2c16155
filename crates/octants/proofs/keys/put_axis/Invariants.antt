-- `put_axis` meets its contract. The invariant is `Filling`.
use Prim.Native.Nat.{◌+◌, ◌*◌}
use lib.ListN.{get_or}
use Rattle.float32.specs.SortOrder.{key_of}
use Rattle.octants.proofs.PartLaws.{Filling}
use Rattle.octants.proofs.keys.put_axis.Given as goal

abbrev pub invariant-loop-p : goal.invariant-loop-p
invariant-loop-p l = Filling (λ q. key_of (get_or l.vertices (3 * q + l.axis) 0)) l.n l.at l.initial.keys l.keys l.p
