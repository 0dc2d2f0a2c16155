-- `enter_sides`: the sides of the polygons from p on are entered.
use mathlib.Core.Path.{◌∙◌}
use Rattle.side_chains.proofs.chains.Entering.{still_enterable, third_leads, second_leads, first_leads, from_as}
use native.Mathlib.Omega.{arith}
use Rattle.side_chains.proofs.chains.enter_sides.Goals as goal

pub enter_side-requires : goal.enter_side-requires
enter_side-requires c =
    let l = c.loop-p in
    let threes = c.requires.0.corners.threes in (
      still_enterable _ _ _ _ _ c.requires.0 l.invariant.0 l.invariant.1,
      omega arith,
      third_leads _ (omega arith),
      from_as _ _ _ _ _ (omega arith) l.invariant.2,
    )

pub enter_side-requires-in-loop-p : goal.enter_side-requires-in-loop-p
enter_side-requires-in-loop-p c =
    let l = c.loop-p in
    let t = c.enter_side in (
      still_enterable _ _ _ _ _ c.requires.0 (t.auto.heads ∙ l.invariant.0) (t.auto.nexts ∙ l.invariant.1),
      omega arith,
      second_leads _ (omega arith),
      from_as _ _ _ _ _ (omega arith) t.ensures,
    )

pub enter_side-requires-in-loop-p-2 : goal.enter_side-requires-in-loop-p-2
enter_side-requires-in-loop-p-2 c =
    let l = c.loop-p in
    let t = c.enter_side in
    let u = c.enter_side-in-loop-p in (
      still_enterable _ _ _ _ _ c.requires.0 (u.auto.heads ∙ t.auto.heads ∙ l.invariant.0) (u.auto.nexts ∙ t.auto.nexts ∙ l.invariant.1),
      omega arith,
      first_leads _ (omega arith),
      u.ensures,
    )
