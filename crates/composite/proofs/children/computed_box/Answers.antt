-- `computed_box` meets its contract: what its calls promise, put together.
use mathlib.Core.Path.{◌∙◌}
use Rattle.math.specs.Stored.{values_of}
use Rattle.math.specs.Transform.{transform_box}
use Rattle.composite.specs.Children.{computed_box}
use Rattle.composite.proofs.children.computed_box.Goals as goal

pub returns : goal.returns
unfolding computed_box
returns c =
    let b = c.box_of-given.ensures in
    c.transform_box.ensures
    ∙ λ i. transform_box (record
    { min = (c.values.ensures ∙ λ j. values_of (b j).min) i; max = (c.values-2.ensures ∙ λ j. values_of (b j).max) i })
    (c.matrix_at.ensures i)
