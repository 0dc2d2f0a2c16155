-- `put_three`: seven stores in a row are one run of stores, of the box's words.
use lib.ListN.{length-set}
use mathlib.Core.Path.{◌∙◌}
use Rattle.polygon_items.proofs.ItemLaws.{seven_stores, three_words}
use native.Mathlib.Omega.{arith}
use Rattle.polygon_items.proofs.put_three.Goals as goal

pub bounds-items-at-2 : goal.bounds-items-at-2
bounds-items-at-2 c = simp length-set (omega arith)

pub bounds-items-at-3 : goal.bounds-items-at-3
bounds-items-at-3 c = simp length-set (omega arith)

pub bounds-items-at-4 : goal.bounds-items-at-4
bounds-items-at-4 c = simp length-set (omega arith)

pub bounds-items-at-5 : goal.bounds-items-at-5
bounds-items-at-5 c = simp length-set (omega arith)

pub bounds-items-at-6 : goal.bounds-items-at-6
bounds-items-at-6 c = simp length-set (omega arith)

pub bounds-items-at-7 : goal.bounds-items-at-7
bounds-items-at-7 c = simp length-set (omega arith)

pub returns : goal.returns
returns c =
    let s = c.args in
    seven_stores s.items.now s.at 1 c.low3.result c.low3-2.result c.low3-3.result
    c.high3.result c.high3-2.result
    c.high3-3.result
    ∙ three_words s.items.now s.at s.a s.b s.c c.low3.ensures c.low3-2.ensures c.low3-3.ensures
    c.high3.ensures
    c.high3-2.ensures c.high3-3.ensures
