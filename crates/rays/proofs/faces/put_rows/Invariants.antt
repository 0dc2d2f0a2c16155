-- `faces::put_rows` meets its contract. The loop's invariant: the rows hold the triangles before k, and are as many as at entry.
use mathlib.Core.Path.{◌≡◌}
use Prim.Native.Nat.{ℕ}
use mathlib.Core.List.{List}
use lib.ListN.{length}
use lib.Ieee.{Float}
use Rattle.rays.specs.Steps.Rows.{Filled}
use Rattle.rays.proofs.faces.put_rows.Given as goal

pub record Filling (tri : List ℕ) (t : ℕ) (points : List ℕ) (before rows : List Float) (k : ℕ) : Type 0 where
  pub same_length : length rows ≡ length before
  pub filled : Filled tri t points rows k

abbrev pub invariant-loop-k : goal.invariant-loop-k
invariant-loop-k l = Filling l.tri l.t l.points l.initial.rows l.rows l.k
