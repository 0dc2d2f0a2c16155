-- `normals::polygon_normal` meets its contract: by which corner is missing first, if any.
use mathlib.Core.Path.{ap, ◌∙◌}
use native.Mathlib.Omega.{arith}
use Rattle.rings.specs.Normals.{normal_of}
use Rattle.points.specs.Points.{vertex_at}
use Rattle.rings.proofs.NormalLaws.{first_missing, second_missing, third_missing, all_there}
use Rattle.rings.proofs.normals.polygon_normal.Goals as goal

pub returns-then-a-v : goal.returns-then-a-v
returns-then-a-v c =
    let a = c.args in
    c.origin.ensures ∙ first_missing a.corners.now a.vertices.now a.v a.p
    (omega (arith, c.wide-a.ensures))

pub returns-then-b-v : goal.returns-then-b-v
returns-then-b-v c =
    let a = c.args in
    c.origin-then-b-v.ensures ∙ second_missing a.corners.now a.vertices.now a.v a.p
    (omega (arith, c.wide-a.ensures))
    (omega (arith, c.wide-b.ensures))

pub returns-then-c-v : goal.returns-then-c-v
returns-then-c-v c =
    let a = c.args in
    c.origin-then-c-v.ensures ∙ third_missing a.corners.now a.vertices.now a.v a.p
    (omega (arith, c.wide-a.ensures))
    (omega (arith, c.wide-b.ensures)) (omega (arith, c.wide-c.ensures))

pub returns : goal.returns
returns c =
    let a = c.args in
    let x = c.wide-a.ensures in
    let y = c.wide-b.ensures in
    let z = c.wide-c.ensures in
    let one = c.vertex_at.ensures ∙ ap (vertex_at a.vertices.now) x in
    let two = c.vertex_at-2.ensures ∙ ap (vertex_at a.vertices.now) y in
    let three = c.vertex_at-3.ensures ∙ ap (vertex_at a.vertices.now) z in
    c.normal.ensures ∙ (λ i. normal_of (one i) (two i) (three i))
    ∙ all_there a.corners.now a.vertices.now a.v a.p (omega (arith, x)) (omega (arith, y)) (omega (arith, z))
