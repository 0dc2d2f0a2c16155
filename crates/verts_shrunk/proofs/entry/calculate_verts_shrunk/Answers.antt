-- `entry::calculate_verts_shrunk` meets its contract: each answer by its tests, with the laws of Answering.
use mathlib.Core.Path.{sym, ◌∙◌}
use Prim.Native.Nat.{◌*◌}
use lib.Seq.{length-take-le}
use Rattle.verts_shrunk.specs.declared.entry.Lengths.{Lengths}
use Rattle.verts_shrunk.proofs.entry.Answering.{room, lengths_of, lent, many_polygons, many_vertices, too_small, unknown, none_there, infinite, served}
use Rattle.verts_shrunk.proofs.entry.calculate_verts_shrunk.Goals as goal

pub returns-then-n-gt32767 : goal.returns-then-n-gt32767
returns-then-n-gt32767 c =
    let sizes : Lengths =
    lengths_of c.args.polygons.now c.args.vertices.now c.args.points.now c.args.corners.now c.args.tri.now c.args.firsts.now
    c.args.spare.now c.args.links.now c.args.normals.now c.args.olds.now c.args.news.now in
    let a = c.args in
    many_polygons a.geometry a.n a.polygons.now a.v a.vertices.now sizes a.points.now c.if-n-gt32767.true

pub returns-then-v-gt32768 : goal.returns-then-v-gt32768
returns-then-v-gt32768 c =
    let sizes : Lengths =
    lengths_of c.args.polygons.now c.args.vertices.now c.args.points.now c.args.corners.now c.args.tri.now c.args.firsts.now
    c.args.spare.now c.args.links.now c.args.normals.now c.args.olds.now c.args.news.now in
    let a = c.args in
    many_vertices a.geometry a.n a.polygons.now a.v a.vertices.now sizes a.points.now c.if-n-gt32767.false c.if-v-gt32768.true

pub returns-then-too_short : goal.returns-then-too_short
returns-then-too_short c =
    let sizes : Lengths =
    lengths_of c.args.polygons.now c.args.vertices.now c.args.points.now c.args.corners.now c.args.tri.now c.args.firsts.now
    c.args.spare.now c.args.links.now c.args.normals.now c.args.olds.now c.args.news.now in
    let a = c.args in
    too_small a.geometry a.n a.polygons.now a.v a.vertices.now sizes a.points.now c.if-n-gt32767.false c.if-v-gt32768.false (sym c.too_short.ensures ∙ c.if-too_short.true)

pub kinds_known-requires : goal.kinds_known-requires
kinds_known-requires c =
    let sizes : Lengths =
    lengths_of c.args.polygons.now c.args.vertices.now c.args.points.now c.args.corners.now c.args.tri.now c.args.firsts.now
    c.args.spare.now c.args.links.now c.args.normals.now c.args.olds.now c.args.news.now in
    (room c.args.n c.args.v sizes (sym c.too_short.ensures ∙ c.if-too_short.false)).polygons

pub returns-then-not-kinds_known : goal.returns-then-not-kinds_known
returns-then-not-kinds_known c =
    let sizes : Lengths =
    lengths_of c.args.polygons.now c.args.vertices.now c.args.points.now c.args.corners.now c.args.tri.now c.args.firsts.now
    c.args.spare.now c.args.links.now c.args.normals.now c.args.olds.now c.args.news.now in
    let a = c.args in
    unknown a.geometry a.n a.polygons.now a.v a.vertices.now sizes a.points.now c.if-n-gt32767.false c.if-v-gt32768.false
    (sym c.too_short.ensures ∙ c.if-too_short.false) (sym c.kinds_known.ensures ∙ c.if-not-kinds_known.true)

pub returns-then-v-eq0 : goal.returns-then-v-eq0
returns-then-v-eq0 c =
    let sizes : Lengths =
    lengths_of c.args.polygons.now c.args.vertices.now c.args.points.now c.args.corners.now c.args.tri.now c.args.firsts.now
    c.args.spare.now c.args.links.now c.args.normals.now c.args.olds.now c.args.news.now in
    let a = c.args in
    none_there a.geometry a.n a.polygons.now a.v a.vertices.now sizes a.points.now c.if-n-gt32767.false c.if-v-gt32768.false
    (sym c.too_short.ensures ∙ c.if-too_short.false) (sym c.kinds_known.ensures ∙ c.if-not-kinds_known.false) c.if-v-eq0.true

pub returns-then-infinite_start : goal.returns-then-infinite_start
returns-then-infinite_start c =
    let sizes : Lengths =
    lengths_of c.args.polygons.now c.args.vertices.now c.args.points.now c.args.corners.now c.args.tri.now c.args.firsts.now
    c.args.spare.now c.args.links.now c.args.normals.now c.args.olds.now c.args.news.now in
    let a = c.args in
    infinite a.geometry a.n a.polygons.now a.v a.vertices.now sizes a.points.now c.if-n-gt32767.false c.if-v-gt32768.false
    (sym c.too_short.ensures ∙ c.if-too_short.false) (sym c.kinds_known.ensures ∙
    c.if-not-kinds_known.false) c.if-v-eq0.false
    (sym c.infinite_start.ensures ∙ c.if-infinite_start.true)

pub slice_bounds-shrink_polygons-end : goal.slice_bounds-shrink_polygons-end
slice_bounds-shrink_polygons-end c =
    let sizes : Lengths =
    lengths_of c.args.polygons.now c.args.vertices.now c.args.points.now c.args.corners.now c.args.tri.now c.args.firsts.now
    c.args.spare.now c.args.links.now c.args.normals.now c.args.olds.now c.args.news.now in
    (room c.args.n c.args.v sizes (sym c.too_short.ensures ∙ c.if-too_short.false)).points

pub slice_bounds-shrink_polygons-end-2 : goal.slice_bounds-shrink_polygons-end-2
slice_bounds-shrink_polygons-end-2 c =
    let sizes : Lengths =
    lengths_of c.args.polygons.now c.args.vertices.now c.args.points.now c.args.corners.now c.args.tri.now c.args.firsts.now
    c.args.spare.now c.args.links.now c.args.normals.now c.args.olds.now c.args.news.now in
    let r = room c.args.n c.args.v sizes (sym c.too_short.ensures ∙ c.if-too_short.false) in
    sym (length-take-le (3 * c.args.v) c.args.points.now r.points)

pub shrink_polygons-requires : goal.shrink_polygons-requires
shrink_polygons-requires c =
    let a = c.args in
    lent a.n a.v a.polygons.now a.vertices.now a.points.now a.corners.now a.tri.now a.firsts.now a.spare.now
    a.links.now a.normals.now a.olds.now a.news.now c.if-n-gt32767.false c.if-v-gt32768.false (sym c.too_short.ensures ∙ c.if-too_short.false)

pub returns : goal.returns
returns c =
    let sizes : Lengths =
    lengths_of c.args.polygons.now c.args.vertices.now c.args.points.now c.args.corners.now c.args.tri.now c.args.firsts.now
    c.args.spare.now c.args.links.now c.args.normals.now c.args.olds.now c.args.news.now in
    let a = c.args in
    let long = sym c.too_short.ensures ∙ c.if-too_short.false in
    let front = c.shrink_polygons.auto.points ∙ length-take-le (3 * a.v) a.points.now (room a.n a.v sizes long).points in
    served a.geometry a.n a.polygons.now a.v a.vertices.now sizes a.points.now c.if-n-gt32767.false c.if-v-gt32768.false long
    (sym c.kinds_known.ensures ∙ c.if-not-kinds_known.false) c.if-v-eq0.false (sym
    c.infinite_start.ensures ∙ c.if-infinite_start.false) _
    c.shrink_polygons.result _ front c.shrink_polygons.ensures c.from.ensures
