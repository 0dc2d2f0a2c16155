-- `list_each` meets its contract. The invariant is `Listing`: the lists of the octants passed stand in their parts.
use Rattle.octants.proofs.ListLaws.{Listing}
use Rattle.octants.proofs.lists.list_each.Given as goal

abbrev pub invariant-loop-k : goal.invariant-loop-k
invariant-loop-k l = Listing l.n l.keys l.initial.lists l.lists l.counts l.k
