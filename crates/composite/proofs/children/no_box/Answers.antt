-- `no_box` meets its contract: zeros.
use mathlib.Core.Path.{refl}
use lib.Ieee.{of_bits}
use Rattle.composite.specs.Children.{no_box}
use Rattle.composite.proofs.children.no_box.Goals as goal

pub returns : goal.returns
unfolding no_box of_bits
returns c = refl
