-- `reading::polygon_of` meets its contract: by the kind.
use mathlib.Core.Path.{sym, ◌∙◌}
use Rattle.polygon.specs.Polygons.{sphere_of, capsule_of, cylinder_of}
use Rattle.polygon.proofs.KindLaws.{triangle_by_kind, box_by_kind, sphere_by_kind, capsule_by_kind, cylinder_by_kind}
use Rattle.polygon.proofs.reading.polygon_of.Goals as goal

pub returns-then-kind-eq0 : goal.returns-then-kind-eq0
returns-then-kind-eq0 c = c.triangle_of.ensures ∙ sym (triangle_by_kind c.args.h c.if-kind-eq0.true)

pub returns-then-kind-eq3 : goal.returns-then-kind-eq3
returns-then-kind-eq3 c = c.box_of.ensures ∙ sym (box_by_kind c.args.h c.if-kind-eq3.true)

pub returns-then-kind-eq1 : goal.returns-then-kind-eq1
unfolding sphere_of
returns-then-kind-eq1 c =
    let e = sphere_by_kind c.args.h c.if-kind-eq1.true in
    cc

pub returns-then-kind-eq2 : goal.returns-then-kind-eq2
unfolding capsule_of
returns-then-kind-eq2 c =
    let e = capsule_by_kind c.args.h c.if-kind-eq2.true in
    cc

pub returns : goal.returns
unfolding cylinder_of
returns c =
    let e = cylinder_by_kind c.args.h c.if-kind-eq0.false c.if-kind-eq3.false c.if-kind-eq1.false c.if-kind-eq2.false in
    cc
