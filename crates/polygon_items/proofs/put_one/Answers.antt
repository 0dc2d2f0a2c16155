-- `put_one`: a triangle whose vertices are there and have no NaN on the short way, else by its box.
use mathlib.Core.Path.{sym, ap, ◌∙◌}
use Prim.Native.Nat.{ℕ, ◌%◌}
use lib.Seq.{sets}
use Rattle.polygon_boxes.specs.Boxes.{bbox_of}
use Rattle.polygon_boxes.specs.declared.PolygonBox.{PolygonBox}
use Rattle.polygon.specs.declared.Polygon.{Polygon}
use Rattle.polygon_items.specs.Items.{item_words}
use Rattle.polygon_items.proofs.ItemLaws.{three_at}
use Rattle.polygon_items.proofs.put_one.Goals as goal

pub near_words-a-requires : goal.near_words-a-requires
near_words-a-requires c = (c.within.ensures c.if-within.true).0

pub near_words-b-requires : goal.near_words-b-requires
near_words-b-requires c = (c.within.ensures c.if-within.true).1

pub near_words-c-requires : goal.near_words-c-requires
near_words-c-requires c = (c.within.ensures c.if-within.true).2

pub put_three-requires : goal.put_three-requires
put_three-requires c =
    let n = c.all_three.ensures c.if-all_three.true in
    (c.requires.1, n.0, n.1, n.2)

pub returns-then-all_three : goal.returns-then-all_three
returns-then-all_three c =
    let a = c.args in
    let k = ap (λ (n : ℕ). n % 8) (sym c.half_at.ensures) ∙ c.if-half_at-eq0.true in
    let box = three_at a.polygons.now a.vertices.now a.from k _ _ _ _ _ _ c.half_at-i.ensures c.half_at-j.ensures
    c.half_at-k.ensures c.near_words-a.ensures c.near_words-b.ensures c.near_words-c.ensures in
    c.put_three.ensures ∙ ap (λ (b : PolygonBox). sets a.items.now a.at (item_words b)) box

pub returns : goal.returns
returns c =
    let a = c.args in
    let box = c.bbox.ensures ∙ ap (λ (p : Polygon). bbox_of p a.vertices.now) c.polygon_at.ensures in
    c.put_item.ensures ∙ ap (λ (b : PolygonBox). sets a.items.now a.at (item_words b)) box
