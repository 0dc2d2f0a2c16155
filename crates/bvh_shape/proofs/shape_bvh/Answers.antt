-- `shape_bvh` meets its contract: the rebuild, and then the links and the numbers in its order (Shaping).
use Rattle.bvh_shape.proofs.Shaping.{sortable, shaped}
use Rattle.bvh_shape.proofs.shape_bvh.Goals as goal

pub link_and_sort-requires : goal.link_and_sort-requires
link_and_sort-requires c =
    let k = c.rebuild_bvh-built.auto in
    sortable _ _ _ _ _ _ _ _ c.requires.0 _ c.args.bound _ _ _ c.rebuild_bvh-built.ensures _ _ _ _ _
    k.out k.entries k.places
    k.temp k.stack k.rows

pub returns : goal.returns
returns c =
    shaped _ _ _ _ _ _ _ _ c.requires.0 _ c.args.bound _ _ _ c.rebuild_bvh-built.ensures _ _ c.link_and_sort.ensures
