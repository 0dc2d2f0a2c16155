-- The marking: with the furthest first, a vertex is listed unless an earlier one covers it in y and z. Definitions only.
use Rattle.std.specs.Prelude.{ℕ, ◌≤◌, ◌<◌, Bool, true, false, cond, ◌&&◌, ◌||◌, List, [], ◌∷◌, ◌≡◌, leb, eqb, length, get_or, take, drop}
use Rattle.base.specs.Lists.{Below}
use Rattle.base.specs.Sorted.{sort}
use Rattle.shadows.specs.Kept.{some}
use Rattle.far_order.specs.Rows.{y_at, cast_at, hide_at, Rows}
use Rattle.far_order.specs.Steps.Order.{le_by}

abbrev pub member : ℕ → List ℕ → Bool
member p ps = some (λ q. eqb q p) ps

-- q covers p: as far in y, and in z; whether it is in x is left to the order in which they stand
unfoldable pub covers_in : ℕ → List ℕ → ℕ → ℕ → Bool
covers_in n rows q p = leb (y_at n rows q) (y_at n rows p) && leb (cast_at n rows q) (hide_at n rows p)

-- an earlier one of the list covers p
abbrev pub hidden : (ℕ → ℕ → Bool) → List ℕ → ℕ → Bool
hidden covers [] p = false
hidden covers (q ∷ qs) p = (covers q p && member p qs) || hidden covers qs p

-- From place `from` to place `to` the list is in order of y.
abbrev pub ByY : ℕ → List ℕ → List ℕ → ℕ → ℕ → Type 0
ByY n rows ps from to = (a b : ℕ) → from ≤ a → a ≤ b → b < to → y_at n rows (get_or ps a 0) ≤ y_at n rows (get_or ps b 0)

-- Two parts, each in order of y, of places that have their rows and marks.
pub record Halves (n : ℕ) (rows marks ps : List ℕ) (h : ℕ) : Type 0 where
  pub table : Rows n rows
  pub within : h ≤ length ps
  pub below : Below n ps
  pub mark : n ≤ length marks
  pub left : ByY n rows ps 0 h
  pub right : ByY n rows ps h (length ps)

-- Those that pass the test are marked, and the others are as before.
pub record Marked (test : ℕ → Bool) (before after : List ℕ) : Type 0 where
  pub len : length after ≡ length before
  pub marks : (p : ℕ) → p < length before → get_or after p 0 ≡ cond (test p) 1 (get_or before p 0)

-- Those after place h that one before it covers.
abbrev pub cast_on : ℕ → List ℕ → List ℕ → ℕ → ℕ → Bool
cast_on n rows ps h p = some (λ q. covers_in n rows q p) (take h ps) && member p (drop h ps)

-- What the marking asks: rows and marks, places that have them, and as much to work in.
pub record Markable (n : ℕ) (rows marks order temp : List ℕ) : Type 0 where
  pub table : Rows n rows
  pub mark : n ≤ length marks
  pub below : Below n order
  pub room : length order ≤ length temp

-- What it leaves: the places in order of y, and marked what an earlier one covers.
pub record Sifted (n : ℕ) (rows before marks order sorted : List ℕ) : Type 0 where
  pub by_y : sorted ≡ sort (le_by true n rows) order
  pub marks_are : Marked (hidden (covers_in n rows) order) before marks

-- No marks on the first n.
pub record Clear (n : ℕ) (marks : List ℕ) : Type 0 where
  pub size : n ≤ length marks
  pub zeros : (p : ℕ) → p < n → get_or marks p 0 ≡ 0
