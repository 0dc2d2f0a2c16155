-- The lesser and the greater of two floats. Definitions only.
use Rattle.std.specs.Prelude.{ℕ, cond, Float}
use Rattle.std.specs.Float.Ieee.{lt, is_nan, of_bits}
use Rattle.std.specs.Float.{binary32}

-- Rule F3 (01, Float steps; bounds.rs, vmin): a where a < b, else b. So a NaN on either side keeps b, and so does a tie.
unfoldable pub vmin_of : Float → Float → Float
vmin_of a b = cond (lt a b) a b

-- Rule F3 (bounds.rs, vmax): a where a > b, else b.
unfoldable pub vmax_of : Float → Float → Float
vmax_of a b = cond (lt b a) a b

-- Rule F4 (01: a copied NaN keeps its bits): the same choice between two words, by the floats that they stand for.
unfoldable pub vmin_word : ℕ → ℕ → ℕ
vmin_word a b = cond (lt (of_bits binary32 a) (of_bits binary32 b)) a b

unfoldable pub vmax_word : ℕ → ℕ → ℕ
vmax_word a b = cond (lt (of_bits binary32 b) (of_bits binary32 a)) a b

-- Rule F5 (01, Prepare: Rust's own min and max skip a NaN): b where a is a NaN or b is less, else a.
unfoldable pub min_number_of : Float → Float → Float
min_number_of a b = cond (is_nan a) b (cond (lt b a) b a)

unfoldable pub max_number_of : Float → Float → Float
max_number_of a b = cond (is_nan a) b (cond (lt a b) b a)
