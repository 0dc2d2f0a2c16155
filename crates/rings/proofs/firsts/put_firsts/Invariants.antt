-- `firsts::put_firsts` meets its contract. The loop's invariant: the list holds the first sides of those below s.
use mathlib.Core.Path.{◌≡◌}
use Prim.Native.Nat.{ℕ, ◌*◌, ◌≤◌}
use mathlib.Core.List.{List}
use lib.ListN.{length}
use Rattle.rings.specs.Steps.Stored.{Firsts}
use Rattle.rings.proofs.firsts.put_firsts.Given as goal

pub record Noting (corners : List ℕ) (n v end : ℕ) (before firsts : List ℕ) (s : ℕ) : Type 0 where
  pub end_is : end ≡ 3 * n
  pub same_length : length firsts ≡ length before
  pub room : v ≤ length firsts
  pub firsts_are : Firsts corners s v firsts

abbrev pub invariant-loop-s : goal.invariant-loop-s
invariant-loop-s l = Noting l.corners l.n l.v l.end l.initial.firsts l.firsts l.s
