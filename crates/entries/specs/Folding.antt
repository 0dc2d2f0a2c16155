-- The fold of boxes. Definitions only.
use Rattle.std.specs.Prelude.{ℕ, List, [], ◌∷◌}
use Rattle.math.specs.Stored.{vmin_words_of, vmax_words_of}
use Rattle.entries.specs.declared.boxes.BoxWords.{BoxWords}

-- min at f32::MAX and max at f32::MIN on each axis
abbrev pub start_box : BoxWords
start_box =
    record {
      min = record { x = 0x7f7f_ffff; y = 0x7f7f_ffff; z = 0x7f7f_ffff };
      max = record { x = 0xff7f_ffff; y = 0xff7f_ffff; z = 0xff7f_ffff };
    }

-- one box more
abbrev pub fold_step : BoxWords → BoxWords → BoxWords
fold_step acc b = record { min = vmin_words_of acc.min b.min; max = vmax_words_of acc.max b.max }

abbrev pub fold_from : (ℕ → BoxWords) → BoxWords → List ℕ → BoxWords
fold_from at acc [] = acc
fold_from at acc (p ∷ ps) = fold_from at (fold_step acc (at p)) ps

-- Rule T1 (01, Tree build; bvh.rs, update_min_max): the fold of the items in the order given, from f32::MAX and f32::MIN.
unfoldable pub fold_box : (ℕ → BoxWords) → List ℕ → BoxWords
fold_box at ps = fold_from at start_box ps
