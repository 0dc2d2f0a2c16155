-- `check::turn` meets its contract, case by case.
use Rattle.rays.proofs.TurnLaws.{no_hint, hint_first, others_before, others_behind}
use native.Mathlib.Omega.{arith}
use Rattle.rays.proofs.check.turn.Goals as goal

pub returns-then-v-hint : goal.returns-then-v-hint
returns-then-v-hint c = (no_hint c.args.hint c.args.v c.args.k c.if-v-hint.true, c.requires)

pub returns-then-k-eq0 : goal.returns-then-k-eq0
returns-then-k-eq0 c = (hint_first c.args.hint c.args.v c.args.k (omega arith) c.if-k-eq0.true, omega arith)

pub returns-then-k-hint : goal.returns-then-k-hint
returns-then-k-hint c =
    let a = c.args in
    (others_before a.hint a.v a.k (omega arith) c.if-k-eq0.false c.if-k-hint.true, omega arith)

pub returns-else-k-hint : goal.returns-else-k-hint
returns-else-k-hint c =
    let a = c.args in
    (others_behind a.hint a.v a.k (omega arith) c.if-k-eq0.false (omega arith), c.requires)
