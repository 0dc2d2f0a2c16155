-- The boxes that a list of places speaks of, seven words an entry. Definitions only.
use Rattle.std.specs.Prelude.{ℕ, ◌+◌, ◌*◌, List, [], ◌∷◌, get_or}
use Rattle.math.specs.declared.words3.Words3.{Words3}
use Rattle.entries.specs.declared.boxes.BoxWords.{BoxWords}

-- three words from `at` on, as a stored point
abbrev pub point_at : List ℕ → ℕ → Words3
point_at ws at = record { x = get_or ws at 0; y = get_or ws (at + 1) 0; z = get_or ws (at + 2) 0 }

-- the box whose six words stand from `at` on
abbrev pub box_from : List ℕ → ℕ → BoxWords
box_from ws at = record { min = point_at ws at; max = point_at ws (at + 3) }

-- the box at a place: an entry has seven words, a mark and then its box
abbrev pub box_at : List ℕ → ℕ → BoxWords
box_at ws p = box_from ws (7 * p + 1)

-- a box's six words
abbrev pub box_words : BoxWords → List ℕ
box_words b = b.min.x ∷ b.min.y ∷ b.min.z ∷ b.max.x ∷ b.max.y ∷ b.max.z ∷ []
