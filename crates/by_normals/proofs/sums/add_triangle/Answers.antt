-- `sums::add_triangle` meets its contract: nothing is added of a triangle without a corner, else the normal at each of the three.
use mathlib.Core.Path.{ap, ◌∙◌}
use Prim.Native.Nat.{ℕ, ◌*◌}
use Rattle.math.specs.declared.vec3.Vec3.{Vec3}
use Rattle.points.specs.Points.{vertex_at, words_of, pos_of}
use Rattle.math.specs.Vec3s.{add_of}
use mathlib.Core.List.{List}
use lib.Seq.{sets}
use Rattle.by_normals.specs.Normals.{Placed, placed_of, facing, triangle_normal}
use Rattle.by_normals.proofs.SumLaws.{none_added, first_gone, second_gone, third_gone, one_added}
use native.Mathlib.Omega.{arith}
use Rattle.by_normals.proofs.sums.add_triangle.Goals as goal

-- a normal added to one of the points
abbrev stored : List ℕ → Vec3 → ℕ → List ℕ
stored ws n i = sets ws (3 * i) (words_of (add_of (vertex_at ws i) n))

pub returns-then-a-v : goal.returns-then-a-v
returns-then-a-v c =
    let whole : Placed = placed_of c.args.corners.now c.args.vertices.now c.args.v c.args.center c.args.transform in
    none_added whole c.args.p c.args.points.now (first_gone whole c.args.p (omega (
      arith,
      c.wide-a.ensures,
    ))) c.requires.1

pub returns-then-b-v : goal.returns-then-b-v
returns-then-b-v c =
    let whole : Placed = placed_of c.args.corners.now c.args.vertices.now c.args.v c.args.center c.args.transform in
    none_added whole c.args.p c.args.points.now
    (second_gone whole c.args.p (omega (arith, c.wide-a.ensures)) (omega (
      arith,
      c.wide-b.ensures,
    ))) c.requires.1

pub returns-then-c-v : goal.returns-then-c-v
returns-then-c-v c =
    let whole : Placed = placed_of c.args.corners.now c.args.vertices.now c.args.v c.args.center c.args.transform in
    none_added whole c.args.p c.args.points.now
    (third_gone whole c.args.p (omega (arith, c.wide-a.ensures)) (omega (
      arith,
      c.wide-b.ensures,
    )) (omega (arith, c.wide-c.ensures))) c.requires.1

pub add_at-requires : goal.add_at-requires
add_at-requires c =
    omega (
      arith,
      c.requires.0.size,
      c.if-a-v.false,
    )

pub add_at-requires-2 : goal.add_at-requires-2
add_at-requires-2 c =
    omega (
      arith,
      c.requires.0.size,
      c.if-b-v.false,
      c.add_at.auto.points,
    )

pub add_at-requires-3 : goal.add_at-requires-3
add_at-requires-3 c =
    omega (
      arith,
      c.requires.0.size,
      c.if-c-v.false,
      c.add_at.auto.points,
      c.add_at-2.auto.points,
    )

pub returns : goal.returns
unfolding triangle_normal
returns c =
    let whole : Placed = placed_of c.args.corners.now c.args.vertices.now c.args.v c.args.center c.args.transform in
    let a = c.args in
    let n = c.facing-n.result in
    let x = c.wide-a.ensures in
    let y = c.wide-b.ensures in
    let z = c.wide-c.ensures in
    let at : ℕ → Vec3 = pos_of a.transform a.center a.vertices.now in
    let one = c.vertex_pos.ensures ∙ ap at x in
    let two = c.vertex_pos-2.ensures ∙ ap at y in
    let three = c.vertex_pos-3.ensures ∙ ap at z in
    let u = c.add_at in
    let v = c.add_at-2 in
    let w = c.add_at-3 in
    one_added whole a.p n a.points.now u.new.points v.new.points w.new.points c.requires.0.size u.auto.points v.auto.points
    (omega (arith, x, c.if-a-v.false)) (omega (
      arith,
      y,
      c.if-b-v.false,
    )) (omega (arith, z, c.if-c-v.false))
    (c.facing-n.ensures ∙ (λ i. facing (one i) (two i) (three i))) (u.ensures ∙ ap (stored a.points.now n) x)
    (v.ensures ∙ ap (stored u.new.points n) y) (w.ensures ∙ ap (stored v.new.points n) z) c.requires.1
