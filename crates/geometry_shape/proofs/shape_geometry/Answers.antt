-- `shape_geometry` meets its contract: the mesh that is linked is the one that is shrunk; without vertices nothing is (Shaping).
use Prim.Native.Nat.{◌*◌}
use mathlib.Core.Path.{sym}
use lib.Seq.{length-take-le}
use Rattle.geometry_shape.proofs.Shaping.{linkable, shapeable, shaped, empty}
use Rattle.geometry_shape.proofs.shape_geometry.Goals as goal

pub link_mesh-requires : goal.link_mesh-requires
link_mesh-requires c =
    linkable c.requires

pub returns-then-v-eq0 : goal.returns-then-v-eq0
returns-then-v-eq0 c =
    let a = c.args in
    empty a.counts.polygons a.counts.vertices a.polygons.now _ _ _ _ c.link_mesh.ensures a.bound a.quantum a.vertices.now
    c.if-v-eq0.true _

pub slice_bounds-shrink_and_store-end-2 : goal.slice_bounds-shrink_and_store-end-2
slice_bounds-shrink_and_store-end-2 c =
    sym (length-take-le (3 * c.args.counts.vertices) c.args.points.now c.requires.for_points)

pub shrink_and_store-requires : goal.shrink_and_store-requires
shrink_and_store-requires c =
    let k = c.link_mesh.auto in
    shapeable _ _ _ _ _ _ _ c.link_mesh.ensures c.requires _ _ _ k.corners k.keys k.sides k.spare
    k.links

pub returns : goal.returns
returns c =
    let a = c.args in
    shaped a.counts.polygons a.counts.vertices a.polygons.now _ _ _ _ c.link_mesh.ensures a.bound a.quantum a.vertices.now
    c.if-v-eq0.false _ _ _ c.shrink_and_store.ensures
