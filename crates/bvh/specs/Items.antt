-- The list of entries that a build is lent, as items and as words. Definitions only.
use Rattle.std.specs.Prelude.{ℕ, zero, suc, ◌+◌, ◌*◌, Bool, cond, not, List, [], ◌∷◌, ◌++◌, ◌==◌, slice_index, slice_index_or}
use Rattle.entries.specs.Boxes.{box_words}
use Rattle.entries.specs.declared.boxes.BoxWords.{BoxWords}
use Rattle.bvh.specs.declared.items.BvhItem.{BvhItem}

-- an entry's box
abbrev pub item_box : BvhItem → BoxWords
item_box i = record { min = i.min; max = i.max }

-- an absent entry of zeros, for a place past the list
abbrev pub absent : BvhItem
absent =
    record { present = 0; min = record { x = 0; y = 0; z = 0 }; max = record { x = 0; y = 0; z = 0 } }

-- the box at a place of the list
unfoldable pub box_in : List BvhItem → ℕ → BoxWords
box_in items p = item_box (slice_index_or items p absent)

-- an entry's mark: 0 where it is absent
abbrev pub is_marked : ℕ → Bool
is_marked w = not (w == 0)

-- Rule T9 (bvh.rs, build_bvh): the places of the present entries, rising; the first entry's place is at.
abbrev pub present : ℕ → List BvhItem → List ℕ
present at [] = []
present at (i ∷ is) = cond (is_marked i.present) (at ∷ present (at + 1) is) (present (at + 1) is)

-- an entry as seven words: the mark, then the box
abbrev pub item_words : BvhItem → List ℕ
item_words i = i.present ∷ box_words (item_box i)

abbrev pub words_of : List BvhItem → List ℕ
words_of [] = []
words_of (i ∷ is) = item_words i ++ words_of is

-- Rule T9, of entries in words: the places of the present ones among the n from `at` on, rising. Entry p begins at word 7 · p.
abbrev pub marked : ℕ → ℕ → List ℕ → List ℕ
marked at zero ws = []
marked at (suc n) ws = cond (is_marked (slice_index ws (7 * at))) (at ∷ marked (at + 1) n ws) (marked (at + 1) n ws)
