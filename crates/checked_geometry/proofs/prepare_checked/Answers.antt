-- `prepare_checked` meets its contract: what is shaped and finished is the definition's (prepared Answering).
use mathlib.Core.Bool.{false}
use mathlib.Core.Path.{◌≡◌, sym}
use Rattle.meshes.specs.declared.Lengths.{Lengths}
use Rattle.meshes.specs.Checks.{is_bvh}
use Rattle.meshes.specs.Meshes.{Mesh, mesh_of, materials_of}
use Rattle.meshes.proofs.CheckLaws.{Sound, geometry_sound}
use Rattle.prepared.specs.Answers.{Lists, lists, Hull, hull, GeometryWork, geometry_work, geometry_lengths}
use Rattle.prepared.proofs.Answering.{geometry_by}
use Rattle.prepared.proofs.KindLaws.{kind_four}
use Rattle.prepared.proofs.Rooms.{geometry_room, geometry_list_room, geometry_store_room}
use Rattle.checked_geometry.proofs.prepare_checked.Goals as goal

pub shape_geometry-octant_counts-requires : goal.shape_geometry-octant_counts-requires
shape_geometry-octant_counts-requires c =
    let mesh : Mesh =
    let a = c.args in
    mesh_of a.bound a.counts a.polygons.now a.numbers.now a.mats.now a.vertices.now in
    let before : Lists =
    let a = c.args in
    lists a.list.now a.indices.now a.polygons_out.now a.stored.now a.floats.now in
    let hulls : Hull = let a = c.args in hull a.shrunk.now a.shrunk_floats.now a.octants.now in
    let work : GeometryWork =
    let a = c.args in
    geometry_work a.entries.now a.places.now a.temp.now a.stack.now a.rows.now a.points.now a.centres.now a.olds.now
    a.news.now in
    let lengths : Lengths = geometry_lengths mesh before hulls work c.args.others in
    let well : (is_bvh mesh.bound.kind ≡ false) × Sound mesh.bound mesh.counts lengths mesh.polygons (materials_of mesh) =
    geometry_sound mesh.bound mesh.counts lengths mesh.polygons (materials_of mesh) (sym c.requires.passed) in
    geometry_room mesh before hulls work c.args.others well.1

pub finish-materials-requires : goal.finish-materials-requires
finish-materials-requires c =
    let mesh : Mesh =
    let a = c.args in
    mesh_of a.bound a.counts a.polygons.now a.numbers.now a.mats.now a.vertices.now in
    let before : Lists =
    let a = c.args in
    lists a.list.now a.indices.now a.polygons_out.now a.stored.now a.floats.now in
    let hulls : Hull = let a = c.args in hull a.shrunk.now a.shrunk_floats.now a.octants.now in
    let work : GeometryWork =
    let a = c.args in
    geometry_work a.entries.now a.places.now a.temp.now a.stack.now a.rows.now a.points.now a.centres.now a.olds.now
    a.news.now in
    let lengths : Lengths = geometry_lengths mesh before hulls work c.args.others in
    let well : (is_bvh mesh.bound.kind ≡ false) × Sound mesh.bound mesh.counts lengths mesh.polygons (materials_of mesh) =
    geometry_sound mesh.bound mesh.counts lengths mesh.polygons (materials_of mesh) (sym c.requires.passed) in (
      geometry_list_room mesh before hulls work c.args.others well.1,
      geometry_store_room mesh before hulls work c.args.others well.1,
    )

pub returns : goal.returns
returns c =
    let mesh : Mesh =
    let a = c.args in
    mesh_of a.bound a.counts a.polygons.now a.numbers.now a.mats.now a.vertices.now in
    let before : Lists =
    let a = c.args in
    lists a.list.now a.indices.now a.polygons_out.now a.stored.now a.floats.now in
    let hulls : Hull = let a = c.args in hull a.shrunk.now a.shrunk_floats.now a.octants.now in
    let work : GeometryWork =
    let a = c.args in
    geometry_work a.entries.now a.places.now a.temp.now a.stack.now a.rows.now a.points.now a.centres.now a.olds.now
    a.news.now in
    let lengths : Lengths = geometry_lengths mesh before hulls work c.args.others in
    let well : (is_bvh mesh.bound.kind ≡ false) × Sound mesh.bound mesh.counts lengths mesh.polygons (materials_of mesh) =
    geometry_sound mesh.bound mesh.counts lengths mesh.polygons (materials_of mesh) (sym c.requires.passed) in
    let four : mesh.bound.kind ≡ 4 = kind_four mesh.bound.kind well.1.kind well.0 in
    geometry_by mesh lengths four c.requires.passed _ c.quantum_of-quantum.ensures before _ hulls _ _ _
    c.shape_geometry-octant_counts.ensures c.finish-materials.ensures.0 c.finish-materials.ensures.1
