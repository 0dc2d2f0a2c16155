-- `rays::misses` meets its contract: the seven tests together, at where the ray meets the plane.
use mathlib.Core.Path.{subst}
use Prim.Native.Nat.{◌+◌}
use Rattle.rays.specs.declared.rays.Meeting.{Meeting}
use Rattle.rays.specs.Steps.Counting.{Failed}
use Rattle.rays.specs.Rays.{strikes, hits}
use Rattle.rays.proofs.CountLaws.{together}
use Rattle.rays.proofs.rays.misses.Goals as goal

pub returns : goal.returns
unfolding hits
returns c =
    subst (λ (m : Meeting). Failed 7 (strikes m c.args.ray.length)
    (c.not_flat.result + (c.within.result + c.ahead.result))) c.meet-m.ensures (together
    c.not_flat.ensures (together c.within.ensures c.ahead.ensures))
