-- `value_at`: the number's two words, where it is below m.
use borrow.Author.Tests.{lt-ltb, le-ltb}
use Rattle.materials.specs.Materials.{value_at}
use Rattle.materials.proofs.listing.value_at.Goals as goal

pub returns-then-number-m : goal.returns-then-number-m
unfolding value_at
returns-then-number-m c = rw (lt-ltb _ _ c.if-number-m.true) c.material.ensures

pub returns : goal.returns
unfolding value_at
returns c = rw (le-ltb _ _ c.if-number-m.false)
