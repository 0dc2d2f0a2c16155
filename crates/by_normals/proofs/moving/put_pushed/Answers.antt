-- `moving::put_pushed` meets its contract. The loop's invariant: the vertices before i are moved, and the sums from i on are as they were.
use mathlib.Core.Path.{◌≡◌, refl, sym, ap, ap₂, ◌∙◌}
use Prim.Native.Nat.{ℕ, ◌+◌, ◌*◌, ◌≤◌, ◌<◌}
use mathlib.Core.List.{List}
use lib.ListN.{length, take, drop}
use lib.Seq.{sets, take_all, drop-drop}
use Rattle.math.specs.declared.vec3.Vec3.{Vec3}
use Rattle.corners.specs.Corners.{in_turn}
use Rattle.points.specs.Points.{vertex_at, words_of}
use Rattle.points.proofs.PointLaws.{points_more, points_behind, point_behind}
use Rattle.by_normals.specs.Normals.{pushed_of}
use native.Mathlib.Omega.{arith}
use Rattle.by_normals.proofs.moving.put_pushed.Goals as goal

behind_more : (ws : List ℕ) (i : ℕ) → drop 3 (drop (3 * i) ws) ≡ drop (3 * (i + 1)) ws
behind_more ws i =
    let three : 3 * i + 3 ≡ 3 * (i + 1) = omega arith in
    drop-drop 3 (3 * i) ws ∙ ap (λ (k : ℕ). drop k ws) three

pub loop-i-init : goal.loop-i-init
loop-i-init c = record { same_length = refl; size = c.requires.1; written = λ sum h. refl; behind = refl }

pub vertex_at-sum-requires : goal.vertex_at-sum-requires
vertex_at-sum-requires c = omega (arith, c.loop-i.invariant.size)

pub vertex_at-requires : goal.vertex_at-requires
vertex_at-requires c = omega (arith, c.requires.0)

pub put_point-requires : goal.put_point-requires
put_point-requires c = omega (arith, c.loop-i.invariant.size)

pub loop-i-preserved : goal.loop-i-preserved
loop-i-preserved c =
    let a = c.args in
    let l = c.loop-i in
    let more : l.i < a.v = omega arith in
    let room : 3 * l.i + 3 ≤ length l.points = omega (arith, l.invariant.size) in
    let read = c.vertex_at-sum.ensures ∙ point_behind l.points a.points.now l.i l.invariant.behind in
    let moved = c.pushed.ensures ∙ ap₂ (λ (from sum : Vec3). pushed_of from sum a.by) c.vertex_at.ensures read in
    let put = c.put_point.ensures ∙ ap (λ (p : Vec3). sets l.points (3 * l.i) (words_of p)) moved in
    let same = c.put_point.auto.points in
    record {
      same_length = same ∙ l.invariant.same_length;
      size = same ∙ l.invariant.size;
      written = λ sum h.
          ap (take (3 * (l.i + 1)))
          (put ∙ ap (λ (s : Vec3). sets l.points (3 * l.i) (words_of (pushed_of (vertex_at a.vertices.now l.i) s a.by))) (h l.i more))
          ∙ points_more l.points l.i (λ k. pushed_of (vertex_at a.vertices.now k) (sum k) a.by) room (l.invariant.written sum h);
      behind =
          ap (drop (3 * (l.i + 1))) put
          ∙ points_behind l.points l.i (pushed_of (vertex_at a.vertices.now l.i) (vertex_at a.points.now l.i) a.by) room
          ∙ ap (drop 3) l.invariant.behind ∙ behind_more a.points.now l.i;
    }

pub returns : goal.returns
returns c =
    let a = c.args in
    let l = c.loop-i in
    let end : l.i ≡ a.v = omega arith in
    λ sum h.
    sym (take_all (3 * l.i) l.points (omega (arith, l.invariant.size))) ∙ l.invariant.written sum h
    ∙ ap (λ (n : ℕ). in_turn n (λ k. words_of (pushed_of (vertex_at a.vertices.now k) (sum k) a.by))) end
