-- `slices::pass_trees` meets its contract. The loop's invariant: all trees before t are passed over. The measure is how many are left.
use mathlib.Core.Path.{sym, ◌∙◌}
use native.Mathlib.Omega.{arith}
use Rattle.walk.proofs.PassLaws.{none_passed, next_passed}
use Rattle.walk.proofs.slices.pass_trees.Goals as goal

pub loop-t-init : goal.loop-t-init
loop-t-init c = none_passed _ _ _ _ _ c.requires.from_le_upto.0

pub overflow_mul-t : goal.overflow_mul-t
overflow_mul-t c = omega (arith, c.requires.from_le_upto)

pub passes-requires : goal.passes-requires
passes-requires c =
    (c.requires.topped, omega (arith, c.requires.from_le_upto))

pub overflow_add-t : goal.overflow_add-t
overflow_add-t c = omega (arith, c.requires.from_le_upto)

pub loop-t-smaller : goal.loop-t-smaller
loop-t-smaller c = omega (arith, c.requires.from_le_upto)

pub loop-t-preserved : goal.loop-t-preserved
loop-t-preserved c =
    next_passed _ _ _ _ _ _ c.loop-t.invariant (omega arith) (sym c.passes.ensures ∙ c.if-passes.true)

pub returns-else-passes : goal.returns-else-passes
returns-else-passes c = c.loop-t.invariant

pub returns-after-loop-t : goal.returns-after-loop-t
returns-after-loop-t c = c.loop-t.invariant
