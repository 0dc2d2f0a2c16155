-- `check::stopped` meets its contract: the vertex did not move, or the hits decide.
use mathlib.Core.Path.{◌∙◌}
use Rattle.rays.specs.Checks.{way_back}
use Rattle.points.specs.Points.{vertex_at}
use Rattle.rays.proofs.CheckLaws.{unstopped, stopped_by_hits}
use Rattle.rays.proofs.check.stopped.Goals as goal

pub returns-then-ray : goal.returns-then-ray
returns-then-ray c =
    let a = c.args in
    let way =
    c.way_back-ray.ensures ∙ (λ i. way_back (c.vertex_at.ensures i)
    (c.vertex_at-2.ensures i)) in
    unstopped a.tri.now a.t a.old.now (vertex_at a.new.now a.i) a.i c.way_back-ray.result way c.if-ray.true

pub returns : goal.returns
returns c =
    let a = c.args in
    let way =
    c.way_back-ray.ensures ∙ (λ i. way_back (c.vertex_at.ensures i)
    (c.vertex_at-2.ensures i)) in
    stopped_by_hits a.tri.now a.t a.old.now (vertex_at a.new.now a.i) a.i c.way_back-ray.result way
    c.if-ray.false a.olds.now
    c.requires.0.old_filled c.hits_in.result c.hits_in.ensures
