-- `ordinary::entry_fault` meets its contract: by its mark.
use mathlib.Core.Path.{ap, ◌∙◌}
use Rattle.tree.proofs.premises.Passing.{unmarked, is_marked_lem}
use Rattle.tree.specs.premises.Faults.{box_fault}
use Rattle.tree.proofs.premises.ordinary.entry_fault.Goals as goal

pub returns-then-entries-p-eq0 : goal.returns-then-entries-p-eq0
returns-then-entries-p-eq0 c = unmarked _ _ _ c.if-entries-p-eq0.true

pub returns : goal.returns
returns c = c.box_fault.ensures ∙ ap box_fault c.box_at.ensures ∙ is_marked_lem _ _ _ c.if-entries-p-eq0.false
