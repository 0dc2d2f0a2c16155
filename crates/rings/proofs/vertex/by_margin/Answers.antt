-- `vertex::by_margin` meets its contract. The loop's invariant: the words of the vertices before i are written.
use mathlib.Core.Path.{◌≡◌, refl, sym, ap, ◌∙◌}
use Prim.Native.Nat.{ℕ, ◌+◌, ◌*◌, ◌<◌}
use lib.ListN.{take}
use lib.Seq.{sets, take_all}
use lib.Ieee.{Float, neg}
use Rattle.math.specs.declared.vec3.Vec3.{Vec3}
use native.Mathlib.Omega.{arith}
use Rattle.corners.specs.Corners.{in_turn}
use Rattle.rings.specs.Meshes.{mesh_of, shrunk_at, by_margin}
use Rattle.points.specs.Points.{words_of}
use Rattle.points.proofs.PointLaws.{points_more}
use Rattle.rings.proofs.VertexLaws.{movable_again}
use Rattle.rings.proofs.vertex.by_margin.Goals as goal

pub loop-i-init : goal.loop-i-init
loop-i-init c =
    record {
      by-is = refl;
      ring-length = refl;
      ns-length = refl;
      points-length = refl;
      size = c.requires.1;
      written = refl;
    }

pub shrunk_at-requires : goal.shrunk_at-requires
shrunk_at-requires c =
    let l = c.loop-i in (
      movable_again c.requires.0 _ _
          l.invariant.ring-length l.invariant.ns-length,
      omega arith,
    )

pub put_point-requires : goal.put_point-requires
put_point-requires c =
    omega (
      arith,
      c.loop-i.invariant.size,
    )

pub loop-i-preserved : goal.loop-i-preserved
loop-i-preserved c =
    let g =
    c in
    let a = g.args in
    let l = c.loop-i in
    let mesh = mesh_of a.corners.now a.links.now a.n a.vertices.now a.v in
    let more : l.i < a.v = omega arith in
    let point = c.shrunk_at.ensures ∙ ap (λ (by : Float). shrunk_at mesh by l.i) l.invariant.by-is in
    let put = c.put_point.ensures ∙ ap (λ (p : Vec3). sets l.points (3 * l.i) (words_of p)) point in
    let same = c.put_point.auto.points in
    record {
      by-is = l.invariant.by-is;
      ring-length = c.shrunk_at.auto.ring ∙ l.invariant.ring-length;
      ns-length = c.shrunk_at.auto.ns ∙ l.invariant.ns-length;
      points-length = same ∙ l.invariant.points-length;
      size = same ∙ l.invariant.size;
      written =
          ap (take (3 * (l.i + 1))) put ∙ points_more l.points l.i (shrunk_at mesh (neg a.margin)) (omega (arith, l.invariant.size)) l.invariant.written;
    }

pub returns : goal.returns
unfolding by_margin
returns c =
    let a = c.args in
    let l = c.loop-i in
    let mesh = mesh_of a.corners.now a.links.now a.n a.vertices.now a.v in
    let end : l.i ≡ a.v = omega arith in
    sym (take_all (3 * l.i) l.points (omega (arith, l.invariant.size))) ∙ l.invariant.written
    ∙ ap (λ (k : ℕ). in_turn k (λ i. words_of (shrunk_at mesh (neg a.margin) i))) end
