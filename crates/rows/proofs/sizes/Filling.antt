-- The loop of `fill_sizes`: the rows before i are as they were, those from i on are sized.
use Prim.Native.Nat.{ℕ, zero, suc, ◌+◌, ◌-◌, ◌*◌, ◌≤◌, ◌<◌}
use native.Mathlib.Omega.{arith}
use native.Mathlib.Nat.{add-zero}
use mathlib.Core.List.{List, [], ◌∷◌, ◌++◌, append_assoc, append-nil}
use mathlib.Core.Path.{◌≡◌, sym, ap, ap₂, ◌∙◌}
use lib.ListN.{length, get_or, set, take, drop, length-append, length-drop, drop_of_length-le, take-append-drop}
use lib.Seq.{take-suc, drop-cons, length-take-le, take_all, take_at}
use borrow.Author.Tests.{ne_eqb, eq-eqb}
use Rattle.rows.specs.Rows.{Row}
use Rattle.rows.specs.Steps.Sizes.{size_at, sized_row, sized}
use Rattle.rows.specs.Steps.Table.{table_of, row_at, rows_in}
use Rattle.rows.proofs.TableLaws.{length_table, rows_in_lem, length_rows_in, table_of_rows, row_among, head_among}
use Rattle.rows.proofs.sizes.Sizing.{size_behind, length_sized, bound}

-- the rows once those from i on are sized
abbrev pub sized_from : ℕ → List Row → List Row
sized_from i rs = take i rs ++ sized (drop i rs)

pub record Filling (rs : List Row) (rest table : List ℕ) (i : ℕ) : Type 0 where
  pub within : i ≤ length rs
  pub held : table ≡ table_of (sized_from i rs) ++ rest

pub start : (m : ℕ) (table : List ℕ) → 8 * m ≤ length table → Filling (rows_in m table) (drop (8 * m) table) table m
start m table room =
    let rs : List Row = rows_in m table in
    let many : length rs ≡ m = length_rows_in m table in
    let all : sized_from m rs ≡ rs = rw (take_all m rs (omega arith), drop_of_length-le rs {i = m} (omega arith)) (append-nil rs) in
    record {
      within = omega arith;
      held = sym (take-append-drop (8 * m) table) ∙ ap (λ (l : List ℕ). l ++ drop (8 * m) table) (sym (ap table_of all ∙ table_of_rows m table room));
    }

pub ended : (rs : List Row) (rest table : List ℕ) (i m : ℕ) → length rs ≡ m → Filling rs rest table i → i ≤ 0 → take (8 * m) table ≡ table_of (sized rs)
ended rs rest table zero m e g h =
    ap (take (8 * m)) g.held ∙ take_at (table_of (sized rs)) rest (8 * m) (omega (arith, length_table (sized rs), length_sized rs))
ended rs rest table (suc i) m e g h = absurd (omega arith)

-- the two sizes that a turn reads: they are those of the rows from i on, and end within the rows
pub record Read (rs : List Row) (i l r : ℕ) : Type 0 where
  pub left : l ≡ size_at (sized (drop i rs)) 0
  pub right : r ≡ size_at (sized (drop i rs)) l
  pub ends : i + l + r ≤ length rs

module _ (rs : List Row) (rest table : List ℕ) (i m : ℕ) (many : length rs ≡ m) (g : Filling rs rest table i) where
  number : length (sized_from i rs) ≡ m
  number =
      omega (arith, length-append (take i rs) (sized (drop i rs)), length-take-le i rs g.within, length_sized (drop i rs), length-drop i rs, g.within)

  -- what is read at a row from i on
  size_read : (j : ℕ) → size_at (rows_in m table) (i + j) ≡ size_at (sized (drop i rs)) j
  size_read j =
      ap (λ (qs : List Row). size_at qs (i + j)) (ap₂ rows_in (sym number) g.held ∙ rows_in_lem (sized_from i rs) rest)
      ∙ size_behind (take i rs) (sized (drop i rs)) i j (length-take-le i rs g.within)

  back_bound : (j : ℕ) → i + j ≤ m → i + j + size_at (sized (drop i rs)) j ≤ m
  back_bound j h = omega (arith, bound (drop i rs) j (omega (arith, length-drop i rs)), length-drop i rs, g.within)

  first_is : (l : ℕ) → l ≡ size_at (rows_in m table) i → l ≡ size_at (sized (drop i rs)) 0
  first_is l e = e ∙ ap (size_at (rows_in m table)) (sym (add-zero i)) ∙ size_read 0

  pub first_ends : (l : ℕ) → l ≡ size_at (rows_in m table) i → i + l ≤ m
  first_ends l e = omega (arith, first_is l e, back_bound 0 (omega (arith, g.within)))

  pub read : (l r : ℕ) → l ≡ size_at (rows_in m table) i → r ≡ size_at (rows_in m table) (i + l) → Read rs i l r
  read l r el er =
      let right : r ≡ size_at (sized (drop i rs)) l = er ∙ size_read l in
      record { left = first_is l el; right = right; ends = omega (arith, back_bound l (first_ends l el)) }

  module _ (q : ℕ) (eq : suc q ≡ i) (d : Row) where
    abbrev row : Row
    row = get_or rs q d

    abbrev behind : List Row
    behind = sized (drop i rs)

    below : q < length rs
    below = omega (arith, g.within)

    ahead : length (take q rs) ≡ q
    ahead = length-take-le q rs (omega (arith, below))

    -- the rows with the one at q apart
    apart : sized_from i rs ≡ take q rs ++ (row ∷ behind)
    apart =
        ap (λ (n : ℕ). take n rs ++ behind) (sym eq)
        ∙ ap (λ (l : List Row). l ++ behind) (take-suc rs q d below)
        ∙ append_assoc (take q rs) (row ∷ []) behind

    next : sized_from q rs ≡ take q rs ++ (sized_row row behind ∷ behind)
    next = ap (λ (l : List Row). take q rs ++ sized l) (drop-cons rs q d below ∙ ap (λ (n : ℕ). row ∷ drop n rs) eq)

    held_apart : table ≡ table_of (take q rs ++ (row ∷ behind)) ++ rest
    held_apart = g.held ∙ ap (λ (l : List Row). table_of l ++ rest) apart

    row_is : row_at table q ≡ row
    row_is = ap (λ (l : List ℕ). row_at l q) held_apart ∙ row_among (take q rs) row behind rest q ahead

    pub inner_turn : (l r : ℕ) → Read rs i l r → (row_at table q).count ≡ 0 → Filling rs rest (set table (8 * q + 6) (1 + l + r)) q
    inner_turn l r two z =
        let inner : row.count ≡ 0 = sym (ap (λ (x : Row). x.count) row_is) ∙ z in
        let v : ℕ = 1 + l + r in
        let head : record { box = row.box; head = v; count = row.count } ≡ sized_row row behind =
        rw (eq-eqb row.count 0 inner, ← two.left, ← two.right) in
        record {
          within = omega (arith, below);
          held =
              ap (λ (t : List ℕ). set t (8 * q + 6) v) held_apart
              ∙ head_among (take q rs) row behind rest q ahead v
              ∙ ap (λ (x : Row). table_of (take q rs ++ (x ∷ behind)) ++ rest) head
              ∙ ap (λ (l : List Row). table_of l ++ rest) (sym next);
        }

    pub leaf_turn : ((row_at table q).count ≡ 0 → ⊥) → Filling rs rest table q
    leaf_turn z =
        let leaf : row.count ≡ 0 → ⊥ = λ e. z (ap (λ (x : Row). x.count) row_is ∙ e) in
        let same : row ≡ sized_row row behind = rw (ne_eqb row.count 0 leaf) in
        record {
          within = omega (arith, below);
          held =
              held_apart
              ∙ ap (λ (x : Row). table_of (take q rs ++ (x ∷ behind)) ++ rest) same
              ∙ ap (λ (l : List Row). table_of l ++ rest) (sym next);
        }

-- What a turn of the loop reads at the row before i: the sizes of the two trees behind it, of which the first ends within the table.
module _ (m : ℕ) (initial rest table : List ℕ) (i l : ℕ) (some : 0 < i) (g : Filling (rows_in m initial) rest table i)
    (first : l ≡ size_at (rows_in m table) (i - 1 + 1)) where
  behind_it : i - 1 + 1 ≡ i
  behind_it = omega arith

  pub turn_first : i + l ≤ m
  turn_first = first_ends (rows_in m initial) rest table i m (length_rows_in m initial) g l (first ∙ ap (size_at (rows_in m table)) behind_it)

  pub turn_read : (r : ℕ) → r ≡ size_at (rows_in m table) (i - 1 + 1 + l) → Read (rows_in m initial) i l r
  turn_read r second =
      read (rows_in m initial) rest table i m (length_rows_in m initial) g l r (first ∙ ap (size_at (rows_in m table)) behind_it)
      (second ∙ ap (λ (k : ℕ). size_at (rows_in m table) (k + l)) behind_it)
