-- `clamp::clamp_points` meets its contract. The loop's invariant: the points before i are clamped, and those from i on are as they were.
use mathlib.Core.Path.{◌≡◌, refl, sym, ap, ◌∙◌}
use Prim.Native.Nat.{ℕ, ◌+◌, ◌*◌, ◌≤◌, ◌<◌}
use mathlib.Core.List.{List}
use lib.ListN.{length, take, drop}
use lib.Seq.{sets, take_all, drop-drop}
use Rattle.math.specs.declared.vec3.Vec3.{Vec3}
use native.Mathlib.Omega.{arith}
use Rattle.corners.specs.Corners.{in_turn}
use Rattle.points.specs.Points.{vertex_at, words_of}
use Rattle.shrink.specs.Clamping.{clamp_of, clamped_words}
use Rattle.points.proofs.PointLaws.{points_more, points_behind, point_behind}
use Rattle.shrink.proofs.clamp.clamp_points.Goals as goal

behind_more : (ws : List ℕ) (i : ℕ) → drop 3 (drop (3 * i) ws) ≡ drop (3 * (i + 1)) ws
behind_more ws i =
    let three : 3 * i + 3 ≡ 3 * (i + 1) = omega arith in
    drop-drop 3 (3 * i) ws ∙ ap (λ (k : ℕ). drop k ws) three

pub loop-i-init : goal.loop-i-init
loop-i-init c = record { same_length = refl; size = c.requires; written = refl; behind = refl }

pub vertex_at-s-requires : goal.vertex_at-s-requires
vertex_at-s-requires c = omega (arith, c.loop-i.invariant.size)

pub put_point-requires : goal.put_point-requires
put_point-requires c = omega (arith, c.loop-i.invariant.size)

pub loop-i-preserved : goal.loop-i-preserved
loop-i-preserved c =
    let a = c.args in
    let l = c.loop-i in
    let more : l.i < a.v = omega arith in
    let room : 3 * l.i + 3 ≤ length l.points = omega (arith, l.invariant.size) in
    let clamped =
    c.clamp.ensures
    ∙ ap (clamp_of a.b) (c.vertex_at-s.ensures
    ∙ point_behind l.points a.points.now l.i l.invariant.behind) in
    let put = c.put_point.ensures ∙ ap (λ (p : Vec3). sets l.points (3 * l.i) (words_of p)) clamped in
    let same = c.put_point.auto.points in
    record {
      same_length = same ∙ l.invariant.same_length;
      size = same ∙ l.invariant.size;
      written = ap (take (3 * (l.i + 1))) put ∙ points_more l.points l.i (λ k. clamp_of a.b (vertex_at a.points.now k)) room l.invariant.written;
      behind =
          ap (drop (3 * (l.i + 1))) put ∙ points_behind l.points l.i (clamp_of a.b (vertex_at a.points.now l.i)) room
          ∙ ap (drop 3) l.invariant.behind ∙ behind_more a.points.now l.i;
    }

pub returns : goal.returns
unfolding clamped_words
returns c =
    let a = c.args in
    let l = c.loop-i in
    let end : l.i ≡ a.v = omega arith in
    sym (take_all (3 * l.i) l.points (omega (arith, l.invariant.size))) ∙ l.invariant.written
    ∙ ap (λ (n : ℕ). in_turn n (λ k. words_of (clamp_of a.b (vertex_at a.points.now k)))) end
