-- `ordinary::fold_present` meets its contract. The loop's invariant, `Folded`: the rest folded onto the box so far is the whole fold.
use Rattle.entries.specs.Folding.{fold_box}
use native.Mathlib.Omega.{arith}
use Rattle.tree.proofs.premises.Passing.{folded_begin, folded_next, folded_end}
use Rattle.tree.proofs.premises.ordinary.fold_present.Goals as goal

pub loop-p-init : goal.loop-p-init
loop-p-init c = folded_begin _ _ _ c.start_box-acc.ensures

pub loop-p-preserved : goal.loop-p-preserved
loop-p-preserved c = folded_next _ _ _ _ _ c.loop-p.invariant (omega arith) c.fold_entry-acc.ensures

pub returns : goal.returns
unfolding fold_box
returns c = folded_end _ _ _ _ c.loop-p.invariant (omega arith)
