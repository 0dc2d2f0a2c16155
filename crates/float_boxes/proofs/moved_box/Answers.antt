-- `moved_box`: what its calls ensure.
use mathlib.Core.Path.{ap₂, ◌∙◌}
use Rattle.float_boxes.specs.Floats.{told_box}
use Rattle.float_boxes.proofs.moved_box.Goals as goal

pub returns : goal.returns
returns c = c.told_box.ensures ∙ ap₂ told_box c.least-min.ensures c.greatest-max.ensures
