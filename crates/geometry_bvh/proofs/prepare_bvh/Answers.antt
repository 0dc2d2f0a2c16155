-- `prepare_bvh` meets its contract: a check that fails is the answer, and else what is made with a tree or without is the definition's (checked_bvh Grown).
use mathlib.Core.Path.{sym, ap, ◌∙◌}
use Rattle.std.specs.Prelude.{Ok}
use Rattle.std.proofs.lemmas.Result.{err_from_is_err_and}
use Rattle.bvh.specs.Entry.{Outputs, outputs}
use Rattle.meshes.specs.Meshes.{Mesh, mesh_of}
use Rattle.prepared.specs.Answers.{Lists, lists, BvhWork, bvh_work}
use Rattle.prepared.proofs.Answering.{bvh_refused}
use Rattle.checked_bvh.proofs.Grown.{empty_rooms, empty_answered}
use Rattle.geometry_bvh.proofs.prepare_bvh.Goals as goal

pub returns-in_err-refusal_as : goal.returns-in_err-refusal_as
returns-in_err-refusal_as c =
    let p = err_from_is_err_and c.from_residual.result c.from_residual.ensures.1 in
    rw (p.1, p.2) (bvh_refused _ _ _ _ _ (sym c.in_err-refusal_as.was ∙ c.refusal_as.ensures))

pub finish_empty-requires : goal.finish_empty-requires
finish_empty-requires c =
    let a = c.args in
    let mesh : Mesh = mesh_of a.bound a.counts a.polygons.now a.numbers.now a.mats.now a.vertices.now in
    let before : Lists = lists a.list.now a.indices.now a.polygons_out.now a.stored.now a.floats.now in
    let trees : Outputs = outputs a.node_bytes.now a.tree_bytes.now a.order.now in
    let work : BvhWork =
    bvh_work a.entries.now a.places.now a.temp.now a.stack.now a.rows.now a.points.now a.sorted.now a.centres.now in
    empty_rooms mesh before trees work a.others (sym c.in_ok-refusal_as.was ∙ c.refusal_as.ensures)

pub returns-then-counts-eq0 : goal.returns-then-counts-eq0
returns-then-counts-eq0 c =
    let a = c.args in
    let mesh : Mesh = mesh_of a.bound a.counts a.polygons.now a.numbers.now a.mats.now a.vertices.now in
    let before : Lists = lists a.list.now a.indices.now a.polygons_out.now a.stored.now a.floats.now in
    let trees : Outputs = outputs a.node_bytes.now a.tree_bytes.now a.order.now in
    let work : BvhWork =
    bvh_work a.entries.now a.places.now a.temp.now a.stack.now a.rows.now a.points.now a.sorted.now a.centres.now in
    let e = c.finish_empty.ensures in
    empty_answered mesh before trees work a.others (sym c.in_ok-refusal_as.was ∙ c.refusal_as.ensures) c.if-counts-eq0.true _ _ _ _ _
    (ap Ok e.0) e.1

pub prepare_tree-requires : goal.prepare_tree-requires
prepare_tree-requires c = record { passed = sym c.in_ok-refusal_as.was ∙ c.refusal_as.ensures; some = c.if-counts-eq0.false }

pub returns : goal.returns
returns c = c.prepare_tree.ensures
