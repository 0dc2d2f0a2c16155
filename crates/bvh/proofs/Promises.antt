-- Every tree that is built keeps what point 3 of the request asks whatever the boxes: its leaves' items are the leaf order, and that is the
-- present places in another order.
use Rattle.std.specs.Prelude.{◌≡◌, ℕ, ◌<◌, []}
use mathlib.Core.List.{append-nil}
use mathlib.Core.Path.{sym, ap, ◌∙◌}
use Rattle.base.proofs.NumberLaws.{rising_once}
use Rattle.base.specs.Lists.{occurrences, Rising}
use Rattle.bvh.specs.Build.{Entries, tree_of}
use Rattle.rows.specs.Positions.{items_of}
use Rattle.bvh.specs.Promises.{WellGrown}
use Rattle.rows.specs.Rows.{rows}
use Rattle.growth.specs.Grow.{builder, grow}
use Rattle.rows.specs.Tree.{leaf_order}
use Rattle.growth.proofs.Lawful.{lawful}
use Rattle.rows.proofs.PositionLaws.{rows_items, rows_at_most}
use Rattle.rows.proofs.RangeLaws.{ranges_cut}
use Rattle.growth.proofs.GrowLaws.{grow_at_most, leaf_order_permutes}

pub well_grown : (limit : ℕ) (e : Entries) (th : ℕ) → 0 < limit → 0 < th → Rising 0 e.places → WellGrown limit e th
unfolding tree_of
well_grown limit e th limited some rising =
    let b = builder e.at in
    let law = lawful e.at in
    let t = grow b th e.places in
    let most = grow_at_most b law th some e.places in
    let items : items_of th (leaf_order t) (rows 0 t) ≡ leaf_order t = rows_items th (leaf_order t) 0 t [] most (sym (append-nil (leaf_order t))) in
    let same : (p : ℕ) → occurrences p (items_of th (leaf_order t) (rows 0 t)) ≡ occurrences p e.places =
    λ p. ap (occurrences p) items ∙ leaf_order_permutes b law th some e.places p in
    record {
      present_once = λ p m. same p ∙ rising_once 0 p e.places rising m;
      only_present = same;
      at_most = rows_at_most th 0 t most;
      cut = ranges_cut limit limited t;
    }
