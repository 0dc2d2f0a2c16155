-- `ordinary::first_fault` meets its contract. The loop's invariant, `Clean`: the entries before p break nothing.
use native.Mathlib.Omega.{arith}
use Rattle.tree.proofs.premises.Passing.{clean_begin, clean_next, clean_found, clean_end}
use Rattle.tree.proofs.premises.ordinary.first_fault.Goals as goal

pub loop-p-init : goal.loop-p-init
loop-p-init c = clean_begin _ _

pub returns-then-fault-ne0 : goal.returns-then-fault-ne0
returns-then-fault-ne0 c = clean_found _ _ _ _ c.loop-p.invariant (omega arith) c.entry_fault-fault.ensures c.if-fault-ne0.true

pub loop-p-preserved : goal.loop-p-preserved
loop-p-preserved c = clean_next _ _ _ _ c.loop-p.invariant (omega arith) c.entry_fault-fault.ensures c.if-fault-ne0.false

pub returns : goal.returns
returns c = clean_end _ _ _ c.loop-p.invariant (omega arith)
