-- `emit::row_node` meets its contract: the corners are quantised, and the id and the count, which are small, are cast.
use borrow.Author.Rules.{rules}
use Prim.Native.Nat.{ℕ, ◌<◌}
use mathlib.Core.Path.{◌≡◌, sym, ap, subst, ◌∙◌}
use lib.ListN.{length}
use mir.Syntax.{w16}
use mir.Val.{to_z}
use mir.Facts.{to_z_pos}
use Rattle.entries.specs.declared.boxes.BoxWords.{BoxWords}
use Rattle.records.specs.Quantise.{quantise_of}
use Rattle.rows.specs.Output.{id_of, node_of}
use Rattle.rows.specs.Rows.{Row}
use Rattle.rows.specs.Steps.Table.{row_at}
use Rattle.rows.proofs.emit.row_node.Goals as goal

pub item_id-id-requires : goal.item_id-id-requires
item_id-id-requires c =
    let leaves = length c.args.leaf_order.now in
    let count = c.row_count-items.ensures in
    λ some. subst (λ (h : ℕ). h < leaves) (sym c.row_head.ensures) (c.requires.1.inside (subst (λ (n : ℕ). 0 < n) count some))

pub overflow_cast-result : goal.overflow_cast-result
overflow_cast-result c =
    let row : Row = row_at c.args.rows.now c.args.i in
    let id_is : c.item_id-id.result ≡ id_of c.args.threshold c.args.leaf_order.now row =
    let a = c.args in
    let head = c.row_head.ensures in
    let count = c.row_count-items.ensures in
    c.item_id-id.ensures row.box
    ∙ (λ j. id_of a.threshold a.leaf_order.now (record { box = row.box; head = head j; count = count j })) in
    let small : c.item_id-id.result < 32768 = subst (λ (n : ℕ). n < 32768) (sym id_is) c.requires.1.id in
    search rules

pub returns : goal.returns
unfolding node_of
returns c =
    let row : Row = row_at c.args.rows.now c.args.i in
    let id_is : c.item_id-id.result ≡ id_of c.args.threshold c.args.leaf_order.now row =
    let a = c.args in
    let head = c.row_head.ensures in
    let count = c.row_count-items.ensures in
    c.item_id-id.ensures row.box
    ∙ (λ j. id_of a.threshold a.leaf_order.now (record { box = row.box; head = head j; count = count j })) in
    let s = c.args.scale in
    let small = c.requires.1 in
    let corners = c.row_box-b.ensures in
    let quantised = c.quantise_box-corners.ensures in
    let min = quantised.0 ∙ ap (λ (b : BoxWords). quantise_of b.min s.cen s.inverse) corners in
    let max = quantised.1 ∙ ap (λ (b : BoxWords). quantise_of b.max s.cen s.inverse) corners in
    let id = ap (to_z w16) id_is ∙ to_z_pos w16 small.id in
    let items = ap (to_z w16) c.row_count-items.ensures ∙ to_z_pos w16 small.items in
    λ j. record { min = min j; max = max j; item_id = id j; item_count = items j }
