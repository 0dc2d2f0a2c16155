-- `sums::put_sums` meets its contract. The loop's invariant: the points hold the sums of the polygons before p.
use mathlib.Core.Path.{◌≡◌, refl, subst, ◌∙◌}
use Prim.Native.Nat.{ℕ, ◌+◌, ◌*◌, ◌≤◌}
use mathlib.Core.List.{List}
use lib.ListN.{length}
use Rattle.by_normals.specs.Normals.{Placed, placed_of}
use Rattle.by_normals.specs.Steps.Sums.{Sums, Placeable}
use Rattle.by_normals.proofs.SumLaws.{sums_begin}
use native.Mathlib.Omega.{arith}
use Rattle.by_normals.proofs.sums.put_sums.Goals as goal

-- what one polygon asks, of what all of them ask
one_of : {g : Placed} {n : ℕ} {before : List ℕ} (points : List ℕ) (p : ℕ) → p + 1 ≤ n → length points ≡ length before → Placeable g n before
    → Placeable g (p + 1) points
one_of points p h e a =
    record {
      corners_in = omega (arith, a.corners_in);
      few = omega (arith, a.few);
      vertices_in = a.vertices_in;
      size = e ∙ a.size;
    }

pub loop-p-init : goal.loop-p-init
loop-p-init c =
    let a = c.args in
    let same = c.clear.auto.words in
    record {
      same_length = refl;
      sums-are =
          sums_begin (placed_of a.corners.now a.vertices.now a.v a.center a.transform) c.clear.new.words (same ∙ c.requires.size)
          (λ b h. c.clear.ensures b (omega (arith, same)));
    }

pub add_triangle-requires : goal.add_triangle-requires
add_triangle-requires c =
    let l = c.loop-p in (
      one_of l.points l.p (omega (arith)) (l.invariant.same_length ∙ c.clear.auto.words) c.requires,
      l.invariant.sums-are,
    )

pub loop-p-preserved : goal.loop-p-preserved
loop-p-preserved c =
    let a = c.args in
    let l = c.loop-p in
    let next : 3 * l.p + 3 ≡ 3 * (l.p + 1) = omega arith in
    record {
      same_length = c.add_triangle.auto.points ∙ l.invariant.same_length;
      sums-are =
          subst (λ (m : ℕ). Sums (placed_of a.corners.now a.vertices.now a.v a.center a.transform) m c.add_triangle.new.points)
          next c.add_triangle.ensures;
    }

pub returns : goal.returns
returns c =
    let a = c.args in
    let l = c.loop-p in
    let end : 3 * l.p ≡ 3 * a.n = omega arith in
    subst (λ (m : ℕ). Sums (placed_of a.corners.now a.vertices.now a.v a.center a.transform) m l.points) end l.invariant.sums-are
