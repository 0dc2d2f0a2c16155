-- `put_entries` meets its contract: the words that the boxes are made over are where the vertices stand.
use Rattle.std.specs.Prelude.{ℕ, ◌*◌, List}
use mathlib.Core.Path.{sym, ap, ◌∙◌}
use lib.Seq.{length-take-le}
use Rattle.base.specs.Lists.{over}
use Rattle.polygon_items.specs.Items.{items_of}
use Rattle.rebuild.proofs.OrderLaws.{positions_taken}
use native.Mathlib.Omega.{arith}
use Rattle.rebuild.proofs.put_entries.Goals as goal

pub slice_bounds-put_items-end-2 : goal.slice_bounds-put_items-end-2
slice_bounds-put_items-end-2 c =
    let t = c.put_positions in
    sym (length-take-le (3 * c.args.v) t.new.points (omega (arith, t.auto.points, c.requires.2)))

pub returns : goal.returns
returns c =
    let a = c.args in
    c.put_items.ensures
    ∙ ap (λ (ws : List ℕ). over (items_of a.p a.polygons.now ws) a.entries.now) (positions_taken _ _ _ _ _ _ c.put_positions.ensures)
