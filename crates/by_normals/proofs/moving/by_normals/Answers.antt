-- `moving::by_normals` meets its contract: the vertices are moved by the sums that lie in the points.
use Prim.Native.Nat.{◌*◌}
use mathlib.Core.Path.{◌∙◌}
use Rattle.by_normals.specs.Normals.{Placed, placed_of, sum_at, by_normal_at, by_normals}
use Rattle.by_normals.proofs.moving.by_normals.Goals as goal

pub put_sums-requires : goal.put_sums-requires
put_sums-requires c = c.requires

pub put_pushed-requires : goal.put_pushed-requires
put_pushed-requires c = (
  c.requires.vertices_in,
  c.put_sums.auto.points ∙ c.requires.size,
)

pub returns : goal.returns
unfolding by_normals by_normal_at
returns c =
    let a = c.args in
    let g : Placed = placed_of a.corners.now a.vertices.now a.v a.center a.transform in
    c.put_pushed.ensures (λ i. sum_at g i (3 * a.n)) c.put_sums.ensures.sums
