-- `moving::triple` meets its contract: each arm by its test on the determinant.
use mathlib.Core.Bool.{Bool, cond}
use mathlib.Core.Path.{sym, ap, ◌∙◌}
use lib.Ieee.{lt}
use Rattle.float32.specs.Signs.{abs_of}
use Rattle.math.specs.declared.vec3.Vec3.{Vec3}
use Rattle.math.specs.Vec3s.{dot_of}
use Rattle.rings.specs.Moving.{quarter, farther_of, meet_of, triple_of}
use Rattle.rings.specs.Steps.Stored.{reach_of}
use Rattle.rings.proofs.moving.triple.Goals as goal

pub returns-then-d : goal.returns-then-d
unfolding triple_of
returns-then-d c =
    let a = c.args in
    let best = a.best.point in
    let det = c.abs-d.ensures ∙ ap abs_of (c.dot.ensures ∙ ap (dot_of a.a) c.cross.ensures) in
    c.farther.ensures ∙ ap (λ (x : Vec3). reach_of a.m (farther_of a.m best x)) c.meet.ensures
    ∙ ap (λ (t : Bool). reach_of a.m (cond t (farther_of a.m best (meet_of a.m a.a a.b a.c)) best))
    (sym c.if-d.true ∙ ap (lt quarter) det)

pub returns : goal.returns
unfolding triple_of
returns c =
    let a = c.args in
    let best = a.best.point in
    let det = c.abs-d.ensures ∙ ap abs_of (c.dot.ensures ∙ ap (dot_of a.a) c.cross.ensures) in
    c.requires
    ∙ ap (λ (t : Bool). reach_of a.m (cond t (farther_of a.m best (meet_of a.m a.a a.b a.c)) best))
    (sym c.if-d.false ∙ ap (lt quarter) det)
