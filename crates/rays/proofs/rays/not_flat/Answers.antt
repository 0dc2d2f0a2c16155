-- `rays::not_flat` meets its contract: |det| < 1e-6 exactly where both comparisons hold.
use mathlib.Core.Path.{sym, subst}
use mathlib.Core.Bool.{Bool, not}
use lib.Ieee.{lt, neg}
use Rattle.math.specs.Vec3s.{tolerance}
use Rattle.rays.specs.Steps.Counting.{Failed}
use Rattle.rays.proofs.RayLaws.{flat_by_two, both_fail}
use Rattle.rays.proofs.rays.not_flat.Goals as goal

pub returns : goal.returns
returns c =
    let det = c.args.det in
    subst (λ (b : Bool). Failed 1 (not b) c.from.result) (sym (flat_by_two det))
    (both_fail (lt det tolerance) (lt (neg tolerance) det) c.not_below-low.ensures c.not_below-high.ensures _ c.from.ensures)
