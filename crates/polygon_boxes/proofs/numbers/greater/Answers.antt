-- `greater`: the greater of numbers, by their floats.
use Rattle.float32.proofs.Patterns.{no_nan}
use Rattle.polygon_boxes.proofs.NumberLaws.{Of, of_word, of_max, no_nan_by, word_by}
use Rattle.float32.specs.Extremes.{vmax_word}
use native.Mathlib.Omega.{arith}
use Rattle.polygon_boxes.proofs.numbers.greater.Goals as goal

pub float_from_bits-a : goal.float_from_bits-a
float_from_bits-a c = no_nan _ c.requires.0

pub float_from_bits-b : goal.float_from_bits-b
float_from_bits-b c = no_nan _ c.requires.1

pub float_to_bits-result : goal.float_to_bits-result
float_to_bits-result c =
    no_nan_by _ _ (of_max _ _ _ _ _ c.vmax.ensures (of_word _ (omega (arith, c.ranges)) c.requires.0) (of_word _ (omega (arith, c.ranges)) c.requires.1))

pub returns : goal.returns
returns c =
    let h : Of c.vmax.result (vmax_word c.args.a c.args.b) = of_max _ _ _ _ _ c.vmax.ensures (of_word _ (omega (arith, c.ranges)) c.requires.0) (of_word _ (omega (arith, c.ranges)) c.requires.1) in
    (word_by _ _ h, rw (word_by _ _ h) h.good.number)
