-- `trial::try_good` meets its contract: the hint's vertex alone shows that the margin fails, or the check of all the points decides.
use mathlib.Core.Path.{refl, sym, ◌∙◌}
use mathlib.Core.Bool.{true≢false}
use Rattle.rings.proofs.VertexLaws.{movable_again}
use Rattle.trial.proofs.TrialLaws.{alone, checkable_at, by_check}
use Rattle.trial.proofs.trial.try_good.Goals as goal

pub stopped_at-requires : goal.stopped_at-requires
stopped_at-requires c = alone c.requires refl

pub returns-then-stopped_at : goal.returns-then-stopped_at
returns-then-stopped_at c =
    record {
      answer = sym (c.stopped_at.ensures c.if-stopped_at.true);
      points_are = λ e. absurd (true≢false (sym e));
    }

pub by_margin-requires : goal.by_margin-requires
by_margin-requires c =
    let pre =
    c.requires in
    let kept = c.stopped_at.auto in
    (movable_again pre.movable _ _ kept.ring kept.ns, kept.points ∙ pre.size)

pub check_shrunk-requires : goal.check_shrunk-requires
check_shrunk-requires c =
    checkable_at c.requires refl _
    (c.by_margin.auto.points
    ∙ c.stopped_at.auto.points)

pub returns : goal.returns
returns c =
    by_check c.requires c.args.margin _ _ c.by_margin.ensures
    c.check_shrunk.ensures
