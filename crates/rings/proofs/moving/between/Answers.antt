-- `moving::between` meets its contract: each arm by its test; of three normals there is one triple.
use mathlib.Core.Bool.{Bool, cond}
use mathlib.Core.Path.{sym, ap, ◌∙◌}
use lib.Ieee.{Float, lt, binary32}
use Rattle.float32.specs.SquareRoot.{sqrt_of}
use Rattle.math.specs.declared.vec3.Vec3.{Vec3}
use Rattle.math.specs.Vec3s.{◌⊘◌, one, dot_of, scale_of}
use Rattle.rings.specs.declared.moving.Reach.{Reach}
use Rattle.rings.specs.Moving.{tenth, along_of, triple_of, square_to, between_of}
use Rattle.rings.proofs.MovingLaws.{carried}
use Rattle.rings.proofs.moving.between.Goals as goal

pub returns-then-g : goal.returns-then-g
unfolding between_of
returns-then-g c =
    let a = c.args in
    let g = c.dot-g.ensures ∙ ap (λ (d : Vec3). dot_of d d) c.cross-c.ensures in
    c.along.ensures
    ∙ ap (λ (t : Bool). cond t (along_of a.m a.a) (triple_of a.m a.a a.b a.best (square_to a.a a.b)))
    (sym c.if-g.true ∙ ap (λ (x : Float). lt x tenth) g)

pub triple-found-requires : goal.triple-found-requires
triple-found-requires c = carried c.args.m c.reached.result c.args.best c.reached.ensures

pub returns : goal.returns
unfolding between_of
returns c =
    let a = c.args in
    let k = c.cross-c.ensures in
    let g = c.dot-g.ensures ∙ ap (λ (d : Vec3). dot_of d d) k in
    let root = c.sqrt.ensures ∙ ap (sqrt_of binary32) g in
    let third = c.scale-third.ensures ∙ (λ i. scale_of (k i) (one ⊘ root i)) in
    let best = ap (λ (r : Reach). r.point) c.reached.ensures in
    ap (λ (r : Reach). r.point) c.triple-found.ensures
    ∙ (λ i. triple_of a.m a.a a.b (best i) (third i))
    ∙ ap (λ (t : Bool). cond t (along_of a.m a.a) (triple_of a.m a.a a.b a.best (square_to a.a a.b)))
    (sym c.if-g.false ∙ ap (λ (x : Float). lt x tenth) g)
