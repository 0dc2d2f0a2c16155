-- `put_items`, by the invariant `Making`.
use Rattle.std.specs.Prelude.{◌≡◌}
use mathlib.Core.Path.{sym, ◌∙◌}
use Rattle.composite.proofs.ItemLaws.{length_items, item_at, start, one_more}
use native.Mathlib.Omega.{arith}
use Rattle.composite.proofs.building.put_items.Goals as goal

pub loop-i-init : goal.loop-i-init
loop-i-init c = (start _ _, omega arith)

pub item_of-requires : goal.item_of-requires
item_of-requires c =
    omega (arith, c.requires.0, c.requires.1)

pub put_item-requires : goal.put_item-requires
put_item-requires c =
    omega (arith, c.loop-i.invariant.0.len, c.requires.2)

pub loop-i-preserved : goal.loop-i-preserved
loop-i-preserved c =
    let a = c.args in
    let l = c.loop-i in
    let p = c.requires in (
      one_more _ _ _ _ _ _ l.invariant.0 (omega (arith, p.1, length_items a.children.now 0 a.n)) (omega (arith, p.2))
          (c.item_of.ensures ∙ sym (item_at a.children.now a.n l.i (omega (arith, p.1)))) c.put_item.ensures,
      omega arith,
    )

pub returns : goal.returns
returns c =
    let l = c.loop-i in
    let e : l.i ≡ c.args.k = omega arith in
    rw e at l.invariant.0.made
