-- `trial::try_margin` meets its contract: with a corner missing the vertices that stay decide, else the trial of a mesh without one.
use mathlib.Core.Bool.{Bool}
use mathlib.Core.Path.{subst}
use Rattle.rings.specs.Meshes.{mesh_of}
use Rattle.trial.specs.Steps.Trying.{Tryable}
use Rattle.trial.proofs.TrialLaws.{by_staying}
use Rattle.trial.proofs.trial.try_margin.Goals as goal

pub returns-then-stayed : goal.returns-then-stayed
returns-then-stayed c =
    by_staying c.requires c.if-bad.true
    c.args.margin _ _ (rw (← c.if-stayed.true) c.all_stay-stayed.ensures)

pub returns-else-stayed : goal.returns-else-stayed
returns-else-stayed c =
    by_staying c.requires c.if-bad.true
    c.args.margin _ _ (rw (← c.if-stayed.false) c.all_stay-stayed.ensures)

pub try_good-requires : goal.try_good-requires
try_good-requires c =
    let a = c.args in
    subst (λ (b : Bool). Tryable (mesh_of a.corners.now a.links.now a.n a.vertices.now a.v) b a.tri.now a.t a.firsts.now
    a.normals.now a.olds.now a.ring.now a.ns.now a.news.now a.points.now) c.if-bad.false
    c.requires
