-- `row_at` meets its contract: four words as floats.
use Rattle.composite.proofs.children.row_at.Goals as goal

pub returns : goal.returns
returns c =
    λ i. record { x = c.value.ensures i; y = c.value-2.ensures i; z = c.value-3.ensures i; w = c.value-4.ensures i }
