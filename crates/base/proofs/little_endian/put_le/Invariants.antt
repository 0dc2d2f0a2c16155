-- `little_endian::put_le` meets its contract. The invariant: storing what is left of n, from place i on, gives what storing all of n at entry gives.
use mathlib.Core.Path.{◌≡◌}
use mathlib.Core.List.{List}
use Prim.Native.Nat.{ℕ, ◌+◌, ◌-◌}
use lib.ListN.{length}
use lib.Seq.{sets}
use Rattle.base.specs.LittleEndian.{little_endian}
use Rattle.base.proofs.little_endian.put_le.Given as goal

pub record Storing (out₀ : List ℕ) (at size n : ℕ) (out : List ℕ) (rest i : ℕ) : Type 0 where
  pub long : length out ≡ length out₀
  pub same : sets out (at + i) (little_endian (size - i) rest) ≡ sets out₀ at (little_endian size n)

abbrev pub invariant-loop-i : goal.invariant-loop-i
invariant-loop-i l = Storing l.initial.out l.at l.size l.n l.out l.rest l.i
