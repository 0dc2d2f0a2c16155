-- `whole::shrink` meets its contract: normals, first sides and what every check has in common, then the search, and where a margin passes the clamp.
use mathlib.Core.Path.{◌∙◌}
use Rattle.shrink.proofs.WholeLaws.{tryable, none_shrunk, one_shrunk}
use Rattle.shrink.proofs.whole.shrink.Goals as goal

pub first_margin-requires : goal.first_margin-requires
first_margin-requires c =
    tryable c.requires _ _ _
    c.put_firsts.auto.firsts
    c.put_normals.auto.ns c.begin-bad.auto.olds
    c.put_firsts.ensures
    c.put_normals.ensures _ c.begin-bad.ensures

pub returns-in_err-margin : goal.returns-in_err-margin
returns-in_err-margin c = rw c.from_residual.ensures (none_shrunk c.args.bound c.first_margin.ensures c.start_margin-start.ensures _ c.in_err-margin.was)

pub clamp_points-requires : goal.clamp_points-requires
clamp_points-requires c = c.first_margin.auto.points ∙ c.requires.size

pub returns : goal.returns
returns c =
    one_shrunk c.args.bound
    c.first_margin.ensures
    c.start_margin-start.ensures c.in_ok-margin.margin
    c.in_ok-margin.was _
    c.inset.ensures _ c.clamp_points.ensures
