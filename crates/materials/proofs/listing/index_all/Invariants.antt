-- `index_all`, by the invariant `Indexing`.
use Rattle.materials.specs.Materials.{value_at}
use Rattle.materials.proofs.listing.Indexing.{Indexing}
use Rattle.materials.proofs.listing.index_all.Given as goal

abbrev pub invariant-loop-p : goal.invariant-loop-p
invariant-loop-p l = Indexing (value_at l.m l.mats) l.numbers l.initial.indices l.table l.list l.indices l.count l.p
