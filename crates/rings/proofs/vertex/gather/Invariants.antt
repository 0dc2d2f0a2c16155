-- `vertex::gather` meets its contract. The loop's invariant: the first k + 1 normals are gathered.
use mathlib.Core.Path.{◌≡◌}
use Prim.Native.Nat.{ℕ, ◌+◌, ◌*◌, ◌≤◌}
use mathlib.Core.List.{List}
use lib.ListN.{length}
use lib.Ieee.{Float}
use Rattle.rings.specs.Steps.Gathering.{Gathered}
use Rattle.rings.proofs.vertex.gather.Given as goal

pub record Gathering (normals : List Float) (poly : ℕ) (ring : List ℕ) (count : ℕ) (before ns : List Float) (k : ℕ) : Type 0 where
  pub same_length : length ns ≡ length before
  pub room : 3 * count + 3 ≤ length ns
  pub there : Gathered normals poly ring k ns

abbrev pub invariant-loop-k : goal.invariant-loop-k
invariant-loop-k l = Gathering l.normals l.poly l.ring l.count l.initial.ns l.ns l.k
