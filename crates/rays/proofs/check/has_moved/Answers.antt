-- `check::has_moved` meets its contract: the way back has the length that the definition says.
use mathlib.Core.Path.{ap}
use mathlib.Core.Bool.{not}
use lib.Ieee.{eq}
use Rattle.rays.specs.declared.rays.Ray.{Ray}
use Rattle.rays.specs.Rays.{naught}
use Rattle.rays.proofs.check.has_moved.Goals as goal

pub returns : goal.returns
returns c = ap (λ (r : Ray). not (eq r.length naught)) c.way_back-ray.ensures
