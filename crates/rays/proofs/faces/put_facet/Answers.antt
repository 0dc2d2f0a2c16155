-- `faces::put_facet` meets its contract: three columns, one after the other.
use mathlib.Core.Path.{ap, ◌∙◌}
use Prim.Native.Nat.{◌+◌, ◌*◌}
use mathlib.Core.List.{List}
use lib.Ieee.{Float}
use Rattle.rays.specs.Steps.Rows.{put_column, put_facet}
use Rattle.rays.proofs.faces.put_facet.Goals as goal

pub returns : goal.returns
unfolding put_facet
returns c =
    let a = c.args in
    c.put_column-3.ensures
    ∙ ap (λ (r : List Float). put_column r a.t (6 * a.t + a.k) a.f.side2)
    (c.put_column-2.ensures
    ∙ ap (λ (r : List Float). put_column r a.t (3 * a.t + a.k) a.f.side1)
    c.put_column.ensures)
