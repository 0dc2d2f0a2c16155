-- `normals::put_normals` meets its contract. The loop's invariant: the normals before p are there.
use mathlib.Core.Path.{◌≡◌}
use Prim.Native.Nat.{ℕ}
use mathlib.Core.List.{List}
use lib.ListN.{length}
use lib.Ieee.{Float}
use Rattle.rings.specs.Steps.Stored.{Normals}
use Rattle.rings.proofs.normals.put_normals.Given as goal

pub record Going (corners vertices : List ℕ) (v n : ℕ) (before ns : List Float) (p : ℕ) : Type 0 where
  pub same_length : length ns ≡ length before
  pub there : Normals corners vertices v ns p

abbrev pub invariant-loop-p : goal.invariant-loop-p
invariant-loop-p l = Going l.corners l.vertices l.v l.n l.initial.ns l.ns l.p
