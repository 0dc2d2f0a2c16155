-- `rows::none_of` meets its contract: three tests together.
use mathlib.Core.Path.{subst}
use lib.Dec.{eqb}
use mathlib.Core.Bool.{Bool}
use Prim.Native.Nat.{◌+◌}
use Rattle.rays.specs.Steps.Counting.{Failed}
use Rattle.rays.proofs.CountLaws.{together, none_of_three}
use Rattle.rays.proofs.rows.none_of.Goals as goal

pub returns : goal.returns
returns c =
    let a = c.args in
    subst (λ (good : Bool). Failed 3 good (c.differ.result + (c.differ-2.result + c.differ-3.result)))
    (none_of_three (eqb a.a a.i) (eqb a.b a.i) (eqb a.c a.i))
    (together c.differ.ensures (together c.differ-2.ensures c.differ-3.ensures))
