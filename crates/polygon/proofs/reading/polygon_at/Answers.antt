-- `reading::polygon_at` meets its contract: what its calls ensure, one after the other.
use mathlib.Core.Path.{ap, ◌∙◌}
use Rattle.polygon.specs.Polygons.{polygon_of, polygon_at}
use Rattle.polygon.proofs.reading.polygon_at.Goals as goal

pub returns : goal.returns
unfolding polygon_at
returns c = c.polygon_of.ensures ∙ ap polygon_of c.halves_at.ensures
