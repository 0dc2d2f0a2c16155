-- `shrink_linked` meets its contract: the mesh is that of the corners and links that stand there (HullLaws).
use Prim.Native.Nat.{◌*◌}
use mathlib.Core.Path.{sym}
use lib.Seq.{length-take-le}
use Rattle.geometry_hull.proofs.HullLaws.{shrinkable, by_geometry}
use Rattle.geometry_hull.proofs.shrink_linked.Goals as goal

pub slice_bounds-shrunk_points-end : goal.slice_bounds-shrunk_points-end
slice_bounds-shrunk_points-end c =
    sym (length-take-le (3 * c.args.p) c.args.entries.now c.requires.corners_in)

pub slice_bounds-shrunk_points-end-2 : goal.slice_bounds-shrunk_points-end-2
slice_bounds-shrunk_points-end-2 c =
    sym (length-take-le (3 * c.args.p) c.args.rows.now c.requires.links_in)

pub shrunk_points-requires : goal.shrunk_points-requires
shrunk_points-requires c =
    shrinkable c.requires

pub returns : goal.returns
returns c =
    by_geometry _ _ _ _ _ c.shrunk_points.ensures c.geometry_of.ensures
