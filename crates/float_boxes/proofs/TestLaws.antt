-- A box that is told by a test of its vertices: what a function answers behind either answer of the test.
use mathlib.Core.Path.{◌≡◌, sym, ap, ◌∙◌}
use mathlib.Core.Bool.{Bool, true, false, cond}
use Rattle.float_boxes.specs.Floats.{not_told}
use Rattle.float_boxes.specs.declared.FloatBox.{FloatBox}
use Rattle.float_boxes.specs.declared.Vertices4.{Vertices4}

module _ (test : Vertices4 → Bool) (box : Vertices4 → FloatBox) {v w : Vertices4} {p : Bool} {r : FloatBox} where
  pub not_told_by : v ≡ w → p ≡ test v → p ≡ true → r ≡ not_told → r ≡ cond (test w) not_told (box w)
  not_told_by e t h a = a ∙ rw (ap test (sym e) ∙ sym t ∙ h)

  pub told_by_test : v ≡ w → p ≡ test v → p ≡ false → r ≡ box v → r ≡ cond (test w) not_told (box w)
  told_by_test e t h a = a ∙ ap box e ∙ rw (ap test (sym e) ∙ sym t ∙ h)
