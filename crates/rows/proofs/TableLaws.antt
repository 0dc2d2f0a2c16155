-- Rows laid out in a table and read back.
use Prim.Native.Nat.{ℕ, zero, suc, ◌+◌, ◌*◌, ◌≤◌, ◌<◌}
use native.Mathlib.Omega.{arith}
use mathlib.Core.Path.{◌≡◌, refl, sym, ap, ap₂, ◌∙◌}
use mathlib.Core.List.{List, [], ◌∷◌, ◌++◌, append_assoc}
use lib.ListN.{length, get_or, set, take, drop, length-append, length-drop, take-append-drop}
use lib.Seq.{get_or-drop, get_or_at, set_at, take-add}
use Rattle.entries.specs.Boxes.{box_from, box_words}
use Rattle.rows.specs.Rows.{Row}
use Rattle.rows.specs.Steps.Table.{row_words, table_of, row_at, rows_in}
use Rattle.rows.proofs.WordLaws.{box_drop}

pub table_append : (xs ys : List Row) → table_of (xs ++ ys) ≡ table_of xs ++ table_of ys
table_append [] ys = refl
table_append (x ∷ xs) ys = ap (λ (ws : List ℕ). row_words x ++ ws) (table_append xs ys)

pub length_table : (rs : List Row) → length (table_of rs) ≡ 8 * length rs
length_table [] = refl
length_table (r ∷ rs) = omega (arith, length_table rs)

-- What is laid out is read back, whatever stands after it.
pub rows_in_lem : (rs : List Row) (rest : List ℕ) → rows_in (length rs) (table_of rs ++ rest) ≡ rs
rows_in_lem [] rest = refl
rows_in_lem (r ∷ rs) rest = ap (λ (qs : List Row). r ∷ qs) (rows_in_lem rs rest)

pub length_rows_in : (n : ℕ) (ws : List ℕ) → length (rows_in n ws) ≡ n
length_rows_in zero ws = refl
length_rows_in (suc n) ws = ap suc (length_rows_in n (drop 8 ws))

-- Row i is read from word 8 · i on.
pub row_in : (n : ℕ) (ws : List ℕ) (i : ℕ) (d : Row) → i < n → get_or (rows_in n ws) i d ≡ row_at ws i
row_in zero ws i d h = absurd (omega arith)
row_in (suc n) ws zero d h = refl
row_in (suc n) ws (suc i) d h =
    let word : (k : ℕ) → get_or (drop 8 ws) (8 * i + k) 0 ≡ get_or ws (8 * suc i + k) 0 =
    λ k. get_or-drop 8 ws (8 * i + k) 0 ∙ ap (λ (j : ℕ). get_or ws j 0) (omega arith) in
    let next : 8 + 8 * i ≡ 8 * suc i = omega arith in
    let box : box_from (drop 8 ws) (8 * i) ≡ box_from ws (8 * suc i) = box_drop 8 ws (8 * i) ∙ ap (box_from ws) next in
    row_in n (drop 8 ws) i d (omega arith) ∙ (λ j. record { box = box j; head = word 6 j; count = word 7 j })

-- a table that begins with the words of rows
module _ (rs : List Row) (n : ℕ) (ws : List ℕ) (many : length rs ≡ n) (held : take (8 * n) ws ≡ table_of rs) where
  pub table_is : ws ≡ table_of rs ++ drop (8 * n) ws
  table_is = sym (take-append-drop (8 * n) ws) ∙ ap (λ (l : List ℕ). l ++ drop (8 * n) ws) held

  pub rows_held : rows_in n ws ≡ rs
  rows_held = ap₂ rows_in (sym many) table_is ∙ rows_in_lem rs (drop (8 * n) ws)

  pub row_held : (i : ℕ) (d : Row) → i < n → row_at ws i ≡ get_or rs i d
  row_held i d h = sym (row_in n ws i d h) ∙ ap (λ (qs : List Row). get_or qs i d) rows_held

-- Eight words are a row.
eight_words : (ws : List ℕ) → 8 ≤ length ws → take 8 ws ≡ row_words (row_at ws 0)
eight_words [] h = absurd (omega arith)
eight_words (a ∷ []) h = absurd (omega arith)
eight_words (a ∷ b ∷ []) h = absurd (omega arith)
eight_words (a ∷ b ∷ c ∷ []) h = absurd (omega arith)
eight_words (a ∷ b ∷ c ∷ d ∷ []) h = absurd (omega arith)
eight_words (a ∷ b ∷ c ∷ d ∷ e ∷ []) h = absurd (omega arith)
eight_words (a ∷ b ∷ c ∷ d ∷ e ∷ f ∷ []) h = absurd (omega arith)
eight_words (a ∷ b ∷ c ∷ d ∷ e ∷ f ∷ g ∷ []) h = absurd (omega arith)
eight_words (a ∷ b ∷ c ∷ d ∷ e ∷ f ∷ g ∷ i ∷ ws) h = refl

-- What is read is what is there.
pub table_of_rows : (n : ℕ) (ws : List ℕ) → 8 * n ≤ length ws → table_of (rows_in n ws) ≡ take (8 * n) ws
table_of_rows zero ws h = refl
table_of_rows (suc n) ws h =
    let next : 8 * suc n ≡ 8 + 8 * n = omega arith in
    ap₂ ◌++◌ (sym (eight_words ws (omega arith))) (table_of_rows n (drop 8 ws) (omega (arith, length-drop 8 ws)))
    ∙ sym (take-add 8 (8 * n) ws)
    ∙ ap (λ (k : ℕ). take k ws) (sym next)

-- ---- a row among others

module _ (xs : List Row) (r : Row) (ys : List Row) (rest : List ℕ) (i : ℕ) (here : length xs ≡ i) where
  parted : (q : Row) → table_of (xs ++ (q ∷ ys)) ++ rest ≡ (table_of xs ++ box_words q.box) ++ (q.head ∷ q.count ∷ (table_of ys ++ rest))
  parted q =
      ap (λ (l : List ℕ). l ++ rest) (table_append xs (q ∷ ys))
      ∙ append_assoc (table_of xs) (row_words q ++ table_of ys) rest
      ∙ sym (append_assoc (table_of xs) (box_words q.box) (q.head ∷ q.count ∷ (table_of ys ++ rest)))

  before_head : length (table_of xs ++ box_words r.box) ≡ 8 * i + 6
  before_head = omega (arith, length-append (table_of xs) (box_words r.box), length_table xs)

  pub row_among : row_at (table_of (xs ++ (r ∷ ys)) ++ rest) i ≡ r
  row_among =
      let rs : List Row = xs ++ (r ∷ ys) in
      let many : length rs ≡ length xs + suc (length ys) = length-append xs (r ∷ ys) in
      sym (row_in (length rs) (table_of rs ++ rest) i r (omega arith))
      ∙ ap (λ (qs : List Row). get_or qs i r) (rows_in_lem rs rest)
      ∙ get_or_at xs r ys r i here

  -- another head in its words is another head in the row
  pub head_among : (v : ℕ)
      → set (table_of (xs ++ (r ∷ ys)) ++ rest) (8 * i + 6) v ≡ table_of (xs ++ (record { box = r.box; head = v; count = r.count } ∷ ys)) ++ rest
  head_among v =
      ap (λ (l : List ℕ). set l (8 * i + 6) v) (parted r)
      ∙ set_at (table_of xs ++ box_words r.box) r.head (r.count ∷ (table_of ys ++ rest)) v (8 * i + 6) before_head
      ∙ sym (parted (record { box = r.box; head = v; count = r.count }))
