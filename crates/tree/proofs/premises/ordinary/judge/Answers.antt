-- `ordinary::judge` meets its contract: the first entry that breaks the premises, else the box of all (Judging).
use Rattle.tree.proofs.premises.Judging.{found_first, found_last}
use Rattle.tree.proofs.premises.ordinary.judge.Goals as goal

pub returns-then-first-ne0 : goal.returns-then-first-ne0
returns-then-first-ne0 c = found_first _ _ _ c.first_fault-first.ensures c.if-first-ne0.true

pub returns : goal.returns
returns c =
    found_last _ _ _ _ _ c.first_fault-first.ensures c.if-first-ne0.false c.fold_present.ensures c.extent_fault.ensures
