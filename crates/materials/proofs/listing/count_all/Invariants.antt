-- `count_all`, by the invariant `Counting`.
use Rattle.materials.specs.Materials.{value_at}
use Rattle.materials.proofs.listing.Indexing.{Counting}
use Rattle.materials.proofs.listing.count_all.Given as goal

abbrev pub invariant-loop-p : goal.invariant-loop-p
invariant-loop-p l = Counting (value_at l.m l.mats) l.numbers l.table l.list l.n l.count l.p
