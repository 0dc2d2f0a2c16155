-- `renumbered` meets its contract: by whether the link leads past the polygons.
-- `renumbered` meets its contract: by whether the link leads past the polygons.
use mathlib.Core.Path.{sym, ◌∙◌}
use Rattle.base.proofs.NumberLaws.{below_at}
use Rattle.reorder.proofs.RecordLaws.{renumbered_there, renumbered_past}
use native.Mathlib.Omega.{arith}
use mathlib.Core.Path.{sym, ◌∙◌}
use Rattle.base.proofs.NumberLaws.{below_at}
use Rattle.reorder.proofs.RecordLaws.{renumbered_there, renumbered_past}
use Rattle.reorder.proofs.renumbering.renumbered.Goals as goal

pub returns-then-old-lookup : goal.returns-then-old-lookup
returns-then-old-lookup c = sym (renumbered_past _ _ c.if-old-lookup.true)

pub overflow_cast-result : goal.overflow_cast-result
overflow_cast-result c =
    omega (arith, c.position_of.ensures, below_at 65536 c.args.lookup.now c.args.old c.requires (omega arith))

pub returns : goal.returns
returns c = c.position_of.ensures ∙ sym (renumbered_there _ _ c.if-old-lookup.false)
