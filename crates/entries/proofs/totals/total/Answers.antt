-- `totals::total` meets its contract: the totals that begin with none.
use mathlib.Core.Path.{ap, ◌∙◌}
use Rattle.entries.specs.declared.totals.Totals.{Totals}
use Rattle.entries.specs.Boxes.{box_at}
use Rattle.entries.specs.Steps.Totals.{totals_from}
use Rattle.entries.proofs.TotalLaws.{all_totals}
use Rattle.entries.proofs.totals.total.Goals as goal

pub returns : goal.returns
returns c =
    let at = box_at c.args.entries.now in
    let ps = c.args.places.now in
    c.total_on.ensures ∙ ap (λ (s : Totals). totals_from at s ps) c.no_totals.ensures ∙ all_totals at ps
