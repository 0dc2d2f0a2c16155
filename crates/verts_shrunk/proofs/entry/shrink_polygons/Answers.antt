-- `entry::shrink_polygons` meets its contract: the mesh of the records, by the laws of Meshing.
use Prim.Native.Nat.{◌*◌}
use mathlib.Core.Path.{sym}
use lib.Seq.{length-take-le}
use Rattle.verts_shrunk.proofs.entry.Meshing.{length_unpacked, linkable, meshed, of_records}
use native.Mathlib.Omega.{arith}
use Rattle.verts_shrunk.proofs.entry.shrink_polygons.Goals as goal

pub slice_bounds-links_of-end-2 : goal.slice_bounds-links_of-end-2
slice_bounds-links_of-end-2 c = sym (length_unpacked _ _ _ _ c.unpack_corners.ensures)

pub links_of-requires : goal.links_of-requires
links_of-requires c =
    let p = c.requires in
    linkable _ _ _ _ c.unpack_corners.ensures _ _ _ _ p.few p.tri_room (omega (arith, p.firsts_room)) p.spare_room p.links_room

pub slice_bounds-shrunk_points-end-2 : goal.slice_bounds-shrunk_points-end-2
slice_bounds-shrunk_points-end-2 c =
    sym (length_unpacked _ _ _ _ c.unpack_corners.ensures)

pub slice_bounds-shrunk_points-end-4 : goal.slice_bounds-shrunk_points-end-4
slice_bounds-shrunk_points-end-4 c =
    sym (length-take-le (3 * c.args.n) c.links_of.new.links (omega (arith, c.links_of.auto.links, c.requires.links_room)))

pub shrunk_points-requires : goal.shrunk_points-requires
shrunk_points-requires c =
    let t = c.links_of in
    meshed _ _ _ _ c.unpack_corners.ensures _ t.ensures c.requires _ _ t.auto.keys t.auto.sides t.auto.links

pub returns : goal.returns
returns c = of_records _ _ _ _ c.unpack_corners.ensures _ c.links_of.ensures _ _ _ _ _ c.shrunk_points.ensures
