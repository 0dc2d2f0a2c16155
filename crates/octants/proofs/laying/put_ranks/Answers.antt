-- `put_ranks` meets its contract. The invariant is `Filling`: x and y of a row are as they were.
use mathlib.Core.Path.{ap, ◌∙◌}
use Rattle.octants.proofs.PartLaws.{unfilled, fill_more, filled, near_kept}
use native.Mathlib.Omega.{arith}
use Rattle.octants.proofs.laying.put_ranks.Goals as goal

pub loop-p-init : goal.loop-p-init
loop-p-init g c = λ f k. unfilled _ _ _ _

pub loop-p-preserved : goal.loop-p-preserved
loop-p-preserved g c =
    let l = c.loop-p in
    λ f k. fill_more _ _ _ _ _ _ _ (l.invariant f k) (omega arith) c.requires.room.2
    (k _ _ c.rank.ensures ∙ ap f (c.near_at.ensures ∙ near_kept _ _ _ _ _ _ _ _ c.requires.room.1 (l.invariant f k) (omega arith)))

pub returns : goal.returns
returns g c = λ f k. filled _ _ _ _ _ _ (c.loop-p.invariant f k) (omega arith)
