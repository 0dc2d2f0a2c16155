-- `trial::stopped_at` meets its contract: a vertex that is stopped by a triangle as it was fails, whatever became of the others.
use mathlib.Core.Path.{sym}
use mathlib.Core.Bool.{true≢false}
use Rattle.trial.proofs.TrialLaws.{stoppable, one_stops}
use native.Mathlib.Omega.{arith}
use Rattle.trial.proofs.trial.stopped_at.Goals as goal

pub returns-then-v-hint : goal.returns-then-v-hint
returns-then-v-hint c = λ e. absurd (true≢false (sym e))

pub stopped-requires : goal.stopped-requires
stopped-requires c = (
  stoppable c.requires _ c.put_point.auto.points,
  omega
      (arith, c.if-v-hint.false),
)

pub returns : goal.returns
returns c =
    one_stops c.requires c.args.margin
    c.args.hint (omega (
      arith,
      c.if-v-hint.false,
    )) _ c.shrunk_at.ensures _
    c.put_point.ensures _
    c.stopped.ensures
