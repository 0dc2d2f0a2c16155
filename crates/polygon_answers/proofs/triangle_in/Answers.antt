-- `triangle_in` meets its contract: field by field what the calls ensure.
use Rattle.base.proofs.ShortLaws.{same_short}
use Rattle.polygon_answers.specs.Geometry.{triangle_in}
use Rattle.polygon_answers.proofs.triangle_in.Goals as goal

pub returns : goal.returns
unfolding triangle_in
returns c =
    let r1 = same_short c.short_of.result c.short_of.type_inv in
    let r2 = same_short c.short_of-2.result c.short_of-2.type_inv in
    let r3 = same_short c.short_of-3.result c.short_of-3.type_inv in
    cc
