-- The child box records that `boxes` reads. Definitions only.
use Rattle.std.specs.Prelude.{ℕ, zero, suc, ◌+◌, ◌*◌, List, [], ◌∷◌, ◌++◌}
use Rattle.base.specs.LittleEndian.{le_at}
use Rattle.math.specs.declared.words3.Words3.{Words3}
use Rattle.entries.specs.declared.boxes.BoxWords.{BoxWords}
use Rattle.entries.specs.Boxes.{box_words}

-- Rule L8 (01: w ignored): the x, y and z of the four floats from k on.
unfoldable pub corner_at : List ℕ → ℕ → Words3
corner_at bytes k = record { x = le_at 4 bytes k; y = le_at 4 bytes (k + 4); z = le_at 4 bytes (k + 8) }

-- Rule L8 (01: child boxes of 32 bytes, min, max): the box of the record that stands at k.
unfoldable pub child_box : List ℕ → ℕ → BoxWords
child_box bytes k = record { min = corner_at bytes k; max = corner_at bytes (k + 16) }

-- The first n records as a build takes its entries: a mark that the entry is present, and the box.
unfoldable pub child_words : List ℕ → ℕ → List ℕ
child_words bytes zero = []
child_words bytes (suc n) = child_words bytes n ++ (1 ∷ box_words (child_box bytes (32 * n)))
