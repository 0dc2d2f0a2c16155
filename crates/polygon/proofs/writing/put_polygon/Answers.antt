-- `writing::put_polygon` meets its contract: what its calls ensure, one after the other.
use mathlib.Core.Path.{ap, ◌∙◌}
use lib.Seq.{sets}
use Rattle.polygon.specs.Halves.{halves_bytes}
use Rattle.polygon.specs.Polygons.{polygon_bytes}
use Rattle.polygon.specs.declared.halves.Halves.{Halves}
use Rattle.polygon.proofs.writing.put_polygon.Goals as goal

pub returns : goal.returns
unfolding polygon_bytes
returns c =
    let s = c.args in
    c.put_halves.ensures
    ∙ ap (λ (h : Halves). sets s.out.now s.at (halves_bytes h)) c.halves_of.ensures
