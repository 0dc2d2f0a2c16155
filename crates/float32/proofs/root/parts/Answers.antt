-- `root::parts` meets its contract: each branch is a case of `Scaling`.
use mathlib.Core.Path.{sym, subst}
use Prim.Native.Nat.{ℕ, ◌-◌}
use native.Mathlib.Nat.{mod-eq_of_lt}
use native.Mathlib.Omega.{arith}
use Rattle.float32.specs.RootSteps.{Scales}
use Rattle.float32.proofs.root.Scaling.{places, Moved, moved, subnormal, normal}
use Rattle.float32.proofs.root.parts.Goals as goal

pub overflow_sub-places : goal.overflow_sub-places
overflow_sub-places c =
    let moves : Moved c.args.pattern = moved c.args.pattern c.requires.0 c.if-pattern-lt8388608.true in
    moves.enough

pub overflow_shl-result : goal.overflow_shl-result
overflow_shl-result c =
    let moves : Moved c.args.pattern = moved c.args.pattern c.requires.0 c.if-pattern-lt8388608.true in
    omega (arith, moves.few)

pub overflow_sub-result : goal.overflow_sub-result
overflow_sub-result c =
    let moves : Moved c.args.pattern = moved c.args.pattern c.requires.0 c.if-pattern-lt8388608.true in
    omega (arith, moves.few)

pub returns-then-pattern-lt8388608 : goal.returns-then-pattern-lt8388608
returns-then-pattern-lt8388608 c =
    let moves : Moved c.args.pattern = moved c.args.pattern c.requires.0 c.if-pattern-lt8388608.true in
    let b = c.args.pattern in
    subst (λ (m : ℕ). Scales b m (126 - places b)) (sym (mod-eq_of_lt (omega (arith, moves.most)))) (subnormal b c.requires.0 c.if-pattern-lt8388608.true)

pub returns-else-pattern-lt8388608 : goal.returns-else-pattern-lt8388608
returns-else-pattern-lt8388608 c = normal c.args.pattern c.if-pattern-lt8388608.false c.requires.1
