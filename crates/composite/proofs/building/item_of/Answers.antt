-- `item_of` meets its contract: by the mark absent, or the words of the computed box.
use mathlib.Core.Path.{◌∙◌}
use borrow.Author.Tests.{eq-eqb, ne_eqb}
use Rattle.math.specs.Stored.{bits_of}
use Rattle.composite.specs.Children.{mark_of}
use Rattle.composite.specs.Trees.{child_item}
use Rattle.composite.proofs.building.item_of.Goals as goal

pub returns-then-mark-eq0 : goal.returns-then-mark-eq0
unfolding child_item
returns-then-mark-eq0 c = rw (eq-eqb _ _ c.if-mark-eq0.true) c.absent.ensures

pub returns : goal.returns
unfolding child_item
returns c =
    let b = c.computed_box-b.ensures in
    rw (ne_eqb _ _ c.if-mark-eq0.false)
    (λ i. record {
      present = mark_of c.args.children.now c.args.child.0;
      min = (c.bits.ensures ∙ λ j. bits_of (b j).min) i;
      max =
          (c.bits-2.ensures ∙ λ j. bits_of (b j).max) i;
    })
