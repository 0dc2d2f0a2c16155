-- `read_struct` meets its contract: what the two calls ensure, one after the other.
use mathlib.Core.Path.{ap, ◌∙◌}
use Rattle.polygon_answers.specs.Geometry.{read_answer}
use Rattle.polygon_answers.proofs.read_struct.Goals as goal

pub returns : goal.returns
returns c = c.read_answer.ensures ∙ ap read_answer c.read.ensures
