-- `move_record` meets its contract: what its calls ensure, one after the other.
use Prim.Native.Nat.{◌*◌}
use mathlib.Core.Path.{ap, ◌∙◌}
use lib.Seq.{sets}
use Rattle.polygon.specs.Polygons.{polygon_bytes}
use Rattle.polygon.specs.declared.Polygon.{Polygon}
use Rattle.reorder.specs.Reordering.{relinked}
use Rattle.reorder.proofs.renumbering.move_record.Goals as goal

pub returns : goal.returns
returns c =
    let s = c.args in
    c.put_polygon.ensures
    ∙ ap (λ (p : Polygon). sets s.out.now (16 * s.new.0) (polygon_bytes p))
    (c.relinked.ensures ∙ ap (relinked s.lookup.now) c.polygon_at-p.ensures)
