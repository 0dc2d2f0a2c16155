-- `vertex::shrunk_at` meets its contract: the vertex has no side and stays, or the normals of its ring are gathered and move it.
use mathlib.Core.Path.{◌∙◌}
use native.Mathlib.Omega.{arith}
use Rattle.rings.specs.Meshes.{mesh_of, normal_in}
use Rattle.rings.specs.Moving.{moved_of}
use Rattle.rings.proofs.VertexLaws.{stays, moves, side_in, ring_within, ring_few, own_normal, ring_normals, written_within}
use Rattle.rings.proofs.vertex.shrunk_at.Goals as goal

pub vertex_at-from-requires : goal.vertex_at-from-requires
vertex_at-from-requires c =
    omega (
      arith,
      c.requires.0.vertices_in,
      c.requires.1,
    )

pub bounds-firsts-i : goal.bounds-firsts-i
bounds-firsts-i c =
    omega (
      arith,
      c.requires.0.firsts_in,
      c.requires.1,
    )

pub returns-then-side-eq4294967295 : goal.returns-then-side-eq4294967295
returns-then-side-eq4294967295 c =
    let a = c.args in
    let m = c.requires.0 in
    let mesh = mesh_of a.corners.now a.links.now a.n a.vertices.now a.v in
    let s = c.wide-side.result in
    let side = c.wide-side.ensures ∙ m.firsts_are.sides a.i c.requires.1 in
    c.vertex_at-from.ensures ∙ stays mesh a.by a.i s side c.if-side-eq4294967295.true

pub overflow_cast-i : goal.overflow_cast-i
overflow_cast-i c =
    omega (
      arith,
      c.requires.0.few,
      c.requires.1,
    )

pub ring-count-requires : goal.ring-count-requires
ring-count-requires c =
    let a = c.args in
    let m = c.requires.0 in
    let mesh = mesh_of a.corners.now a.links.now a.n a.vertices.now a.v in
    let s = c.wide-side.result in
    let side = c.wide-side.ensures ∙ m.firsts_are.sides a.i c.requires.1 in
    let here = side_in mesh a.by a.i s side c.if-side-eq4294967295.false in
    (m.linked, here, m.ring_room)

pub gather-requires : goal.gather-requires
gather-requires c =
    let a = c.args in
    let m = c.requires.0 in
    let mesh = mesh_of a.corners.now a.links.now a.n a.vertices.now a.v in
    let s = c.wide-side.result in
    let side = c.wide-side.ensures ∙ m.firsts_are.sides a.i c.requires.1 in
    let here = side_in mesh a.by a.i s side c.if-side-eq4294967295.false in
    let within = ring_within m.linked a.i s here in
    let begins = c.ring-count.ensures in
    let few = ring_few a.corners.now a.links.now a.i s in (
      omega (arith, here, m.normals_in),
      omega (arith, begins.count, few, m.ring_room, c.ring-count.auto.out),
      omega (arith, begins.count, few, m.normal_room),
      λ k h. omega (arith, written_within begins a.n within k h, m.normals_in),
    )

pub overflow_add-count : goal.overflow_add-count
overflow_add-count c =
    let g =
    c in
    let a = g.args in
    let m = g.requires.0 in
    let mesh = mesh_of a.corners.now a.links.now a.n a.vertices.now a.v in
    let s = c.wide-side.result in
    let side =
    c.wide-side.ensures ∙ m.firsts_are.sides a.i g.requires.1 in
    let here = side_in mesh a.by a.i s side c.if-side-eq4294967295.false in
    omega (arith, c.ring-count.ensures.count, ring_few a.corners.now a.links.now a.i s)

pub moved-requires : goal.moved-requires
moved-requires c =
    let g =
    c in
    let a = g.args in
    let m = g.requires.0 in
    let mesh = mesh_of a.corners.now a.links.now a.n a.vertices.now a.v in
    let s = c.wide-side.result in
    let side =
    c.wide-side.ensures ∙ m.firsts_are.sides a.i g.requires.1 in
    let here = side_in mesh a.by a.i s side c.if-side-eq4294967295.false in (
      omega arith,
      omega (
        arith,
        c.ring-count.ensures.count,
        ring_few a.corners.now
            a.links.now a.i s,
        m.normal_room,
        c.gather.auto.ns,
      ),
    )

pub returns : goal.returns
returns c =
    let g =
    c in
    let a = g.args in
    let m = g.requires.0 in
    let mesh = mesh_of a.corners.now a.links.now a.n a.vertices.now a.v in
    let s = c.wide-side.result in
    let side =
    c.wide-side.ensures
    ∙ m.firsts_are.sides a.i g.requires.1 in
    let here = side_in mesh a.by a.i s side c.if-side-eq4294967295.false in
    let begins = c.ring-count.ensures in
    let got = c.gather.ensures in
    let right = m.normals_are.normals in
    let own = own_normal begins got (normal_in mesh) a.n right (omega (arith, here)) in
    let rest = ring_normals begins got (normal_in mesh) a.n right (ring_within m.linked a.i s here) in
    c.moved.ensures
    ∙ (λ j. moved_of (record {
      from =
          c.vertex_at-from.ensures j;
      by = a.by;
    }) (own j) (rest j))
    ∙ moves mesh a.by a.i s side c.if-side-eq4294967295.false
