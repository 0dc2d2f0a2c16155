-- `normals::vertex_normal` meets its contract: each way by its test.
use mathlib.Core.Bool.{Bool, cond}
use mathlib.Core.Path.{sym, ap, ◌∙◌}
use Rattle.math.specs.Vec3s.{norm_of}
use Rattle.by_normals.specs.Normals.{vertex_normal}
use Rattle.by_normals.proofs.normals.vertex_normal.Goals as goal

pub returns-then-is_origin : goal.returns-then-is_origin
unfolding vertex_normal
returns-then-is_origin c =
    let s = c.args.sum in
    ap (λ (b : Bool). cond b s (norm_of s)) (sym (sym c.is_origin.ensures ∙ c.if-is_origin.true))

pub returns : goal.returns
unfolding vertex_normal
returns c =
    let s = c.args.sum in
    c.norm.ensures ∙ ap (λ (b : Bool). cond b s (norm_of s)) (sym (sym c.is_origin.ensures ∙ c.if-is_origin.false))
