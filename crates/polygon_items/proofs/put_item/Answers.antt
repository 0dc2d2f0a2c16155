-- `put_item`: seven stores in a row are one run of stores.
use lib.ListN.{length-set}
use Rattle.polygon_items.specs.Items.{item_words}
use Rattle.polygon_items.proofs.ItemLaws.{seven_stores}
use native.Mathlib.Omega.{arith}
use Rattle.polygon_items.proofs.put_item.Goals as goal

pub bounds-items-at-2 : goal.bounds-items-at-2
bounds-items-at-2 c = simp length-set (omega arith)

pub bounds-items-at-3 : goal.bounds-items-at-3
bounds-items-at-3 c = simp length-set (omega arith)

pub bounds-items-at-4 : goal.bounds-items-at-4
bounds-items-at-4 c = simp length-set (omega arith)

pub bounds-items-at-5 : goal.bounds-items-at-5
bounds-items-at-5 c = simp length-set (omega arith)

pub bounds-items-at-6 : goal.bounds-items-at-6
bounds-items-at-6 c = simp length-set (omega arith)

pub bounds-items-at-7 : goal.bounds-items-at-7
bounds-items-at-7 c = simp length-set (omega arith)

pub returns : goal.returns
unfolding item_words
returns c =
    let s = c.args in
    let b = s.b in
    seven_stores s.items.now s.at 1 b.min.x b.min.y b.min.z b.max.x b.max.y b.max.z
