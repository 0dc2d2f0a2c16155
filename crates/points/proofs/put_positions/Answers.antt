-- `put_positions` meets its contract. The loop's invariant: the positions of the vertices before i are written, and nothing else.
use mathlib.Core.Path.{refl, ap, ◌∙◌}
use Prim.Native.Nat.{◌*◌}
use mathlib.Core.List.{List}
use Prim.Native.Nat.{ℕ}
use lib.Seq.{sets}
use Rattle.math.specs.declared.vec3.Vec3.{Vec3}
use Rattle.points.specs.Points.{words_of, pos_of, positions_of}
use Rattle.points.proofs.PointLaws.{points_next}
use native.Mathlib.Omega.{arith}
use Rattle.points.proofs.put_positions.Goals as goal

pub loop-i-init : goal.loop-i-init
unfolding positions_of
loop-i-init c = refl

pub loop-i-preserved : goal.loop-i-preserved
unfolding positions_of
loop-i-preserved c =
    let a = c.args in
    let l = c.loop-i in
    c.put_point.ensures
    ∙ ap (λ (p : Vec3). sets l.points (3 * l.i) (words_of p)) c.vertex_pos.ensures
    ∙ ap (λ (ws : List ℕ). sets ws (3 * l.i) (words_of (pos_of a.transform a.center a.vertices.now l.i))) l.invariant
    ∙ points_next (pos_of a.transform a.center a.vertices.now) a.points.now l.i (omega (arith, c.requires.1))
