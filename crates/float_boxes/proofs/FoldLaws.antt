-- A corner of a box by its four steps: three of the fold and one that moves it.
use mathlib.Core.Path.{◌≡◌}
use lib.Ieee.{Float}
use Rattle.float_boxes.specs.Floats.{moved_of}
use Rattle.float_boxes.specs.declared.Floats4.{Floats4}

pub corner : (f : Floats4 → Floats4 → Floats4) (by : Float) {a b c d p q r s : Floats4} → p ≡ f a b → q ≡ f p c → r ≡ f q d → s ≡ moved_of r by
    → s ≡ moved_of (f (f (f a b) c) d) by
corner f by ep eq er es = cc
