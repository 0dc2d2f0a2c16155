-- `whole::shrunk_points` meets its contract: a margin passed, or the vertices are moved by their normals.
use mathlib.Core.Path.{subst}
use Rattle.rings.specs.Meshes.{Mesh, mesh_of}
use Rattle.shrink.specs.Shrinking.{Shrunk}
use Rattle.shrink.specs.declared.whole.Bound.{Bound}
use Rattle.shrinking.proofs.WholeLaws.{placeable, passed, none_passed}
use Rattle.shrinking.proofs.whole.shrunk_points.Goals as goal

pub by_normals-requires : goal.by_normals-requires
by_normals-requires c =
    placeable c.requires c.args.geometry _ c.by_margin-found.auto.points

pub returns-in_default : goal.returns-in_default
returns-in_default c =
    let whole : Mesh = mesh_of c.args.corners.now c.args.links.now c.args.n c.args.vertices.now c.args.v in
    let r = c.by_margin-found in
    let shrunk = subst (λ (b : Bound). Shrunk b whole r.new.points r.result) c.bound_of.ensures r.ensures in
    none_passed c.args.geometry whole shrunk _ c.in_default.is c.by_normals.ensures

pub returns : goal.returns
returns c =
    let whole : Mesh = mesh_of c.args.corners.now c.args.links.now c.args.n c.args.vertices.now c.args.v in
    let r = c.by_margin-found in
    let shrunk = subst (λ (b : Bound). Shrunk b whole r.new.points r.result) c.bound_of.ensures r.ensures in
    passed c.args.geometry whole shrunk c.in-Some.margin c.in-Some.is
