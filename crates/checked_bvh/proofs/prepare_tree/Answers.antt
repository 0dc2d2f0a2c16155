-- `prepare_tree` meets its contract: the shape, and then the lists in the frame of its tree (Grown).
use native.Mathlib.Omega.{arith}
use Rattle.bvh.specs.Entry.{Outputs, outputs}
use Rattle.meshes.specs.Meshes.{Mesh, mesh_of}
use Rattle.prepared.specs.Answers.{Lists, lists, BvhWork, bvh_work}
use Rattle.checked_bvh.proofs.Grown.{shape_room, tree_rooms, tree_answered}
use Rattle.checked_bvh.proofs.prepare_tree.Goals as goal

pub shape_bvh-built-requires : goal.shape_bvh-built-requires
shape_bvh-built-requires c =
    let mesh : Mesh =
    let a = c.args in
    mesh_of a.bound a.counts a.polygons.now a.numbers.now a.mats.now a.vertices.now in
    let before : Lists =
    let a = c.args in
    lists a.list.now a.indices.now a.polygons_out.now a.stored.now a.floats.now in
    let trees : Outputs = let a = c.args in outputs a.node_bytes.now a.tree_bytes.now a.order.now in
    let work : BvhWork =
    let a = c.args in
    bvh_work a.entries.now a.places.now a.temp.now a.stack.now a.rows.now a.points.now a.sorted.now a.centres.now in
    (shape_room mesh before trees work c.args.others c.requires.passed, omega arith, omega (arith, c.requires.some))

pub finish_tree-requires : goal.finish_tree-requires
finish_tree-requires c =
    let mesh : Mesh =
    let a = c.args in
    mesh_of a.bound a.counts a.polygons.now a.numbers.now a.mats.now a.vertices.now in
    let before : Lists =
    let a = c.args in
    lists a.list.now a.indices.now a.polygons_out.now a.stored.now a.floats.now in
    let trees : Outputs = let a = c.args in outputs a.node_bytes.now a.tree_bytes.now a.order.now in
    let work : BvhWork =
    let a = c.args in
    bvh_work a.entries.now a.places.now a.temp.now a.stack.now a.rows.now a.points.now a.sorted.now a.centres.now in
    tree_rooms mesh before trees work c.args.others c.requires.passed _ c.shape_bvh-built.auto.sorted

pub returns : goal.returns
returns c =
    let mesh : Mesh =
    let a = c.args in
    mesh_of a.bound a.counts a.polygons.now a.numbers.now a.mats.now a.vertices.now in
    let before : Lists =
    let a = c.args in
    lists a.list.now a.indices.now a.polygons_out.now a.stored.now a.floats.now in
    let trees : Outputs = let a = c.args in outputs a.node_bytes.now a.tree_bytes.now a.order.now in
    let work : BvhWork =
    let a = c.args in
    bvh_work a.entries.now a.places.now a.temp.now a.stack.now a.rows.now a.points.now a.sorted.now a.centres.now in
    tree_answered mesh before trees work c.args.others c.requires.passed c.requires.some _ _ _ _ _ _ _ _ _ c.shape_bvh-built.ensures
    c.finish_tree.ensures
