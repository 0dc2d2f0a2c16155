-- Keys and rows, part after part of n numbers in one list. Definitions only.
use Rattle.std.specs.Prelude.{ℕ, ◌+◌, ◌*◌, ◌<◌, Bool, List, ◌≡◌, length, get_or}
use Rattle.float32.specs.SortOrder.{key_of}
use Rattle.math.specs.declared.words3.Words3.{Words3}
use Rattle.shadows.specs.Octants.{words_at}
use Rattle.shadows.specs.Nearness.{turned, nearness_at}
use Rattle.shadows.specs.Ranks.{cast_of, hide_of}
use Rattle.far_order.specs.Rows.{x_at, y_at, cast_at, hide_at}

-- From `at` on stand n numbers, and what stands before is as it was.
pub record Filled (f : ℕ → ℕ) (n at : ℕ) (before after : List ℕ) : Type 0 where
  pub len : length after ≡ length before
  pub put : (p : ℕ) → p < n → get_or after (at + p) 0 ≡ f p
  pub left : (i : ℕ) → i < at → get_or after i 0 ≡ get_or before i 0

-- The keys of the words of n vertices.
pub record Keyed (n : ℕ) (ws keys : List ℕ) : Type 0 where
  pub key_x : (p : ℕ) → p < n → get_or keys p 0 ≡ key_of (words_at ws p).x
  pub key_y : (p : ℕ) → p < n → get_or keys (n + p) 0 ≡ key_of (words_at ws p).y
  pub key_z : (p : ℕ) → p < n → get_or keys (2 * n + p) 0 ≡ key_of (words_at ws p).z

-- how near vertex p is, x and y from its row
unfoldable pub near_at : Bool → ℕ → List ℕ → List ℕ → ℕ → Words3
near_at falls n keys rows p = record { x = x_at rows p; y = y_at n rows p; z = turned falls (get_or keys (2 * n + p) 0) }

-- The rows of n vertices in octant o.
pub record Laid (o : ℕ) (ws : List ℕ) (n : ℕ) (rows : List ℕ) : Type 0 where
  pub x_is : (p : ℕ) → p < n → x_at rows p ≡ (nearness_at o ws p).x
  pub y_is : (p : ℕ) → p < n → y_at n rows p ≡ (nearness_at o ws p).y
  pub cast_is : (p : ℕ) → p < n → cast_at n rows p ≡ cast_of (nearness_at o ws p)
  pub hide_is : (p : ℕ) → p < n → hide_at n rows p ≡ hide_of (nearness_at o ws p)
