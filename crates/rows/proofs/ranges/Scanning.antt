-- The loop of `ranges::put_trees`: after k records, at row i, the ranges yet to come are those that a scan of the rows from i on finds.
use Prim.Native.Nat.{ℕ, zero, suc, ◌+◌, ◌-◌, ◌*◌, ◌≤◌, ◌<◌, max}
use native.Mathlib.Omega.{arith}
use native.Mathlib.Nat.{add-zero}
use native.Mathlib.Numerals.{add-one}
use mathlib.Core.Bool.{Bool, true, false, cond}
use mathlib.Core.List.{List, [], ◌∷◌, ◌++◌, append_assoc, append-nil, Memᴰ, map, map-append}
use mathlib.Core.Path.{◌≡◌, refl, sym, ap, ◌∙◌}
use lib.Dec.{leb, eqb}
use lib.ListN.{length, get_or, take, drop, length-append, length-drop, length-take, take-append-drop, drop_of_length-le}
use lib.Seq.{sets, drop_at, drop-cons, drop-drop, take-add, take_all, length-take-le}
use borrow.Author.Tests.{ne_eqb, le-leb, lt-leb}
use Rattle.base.specs.Lists.{over}
use Rattle.base.proofs.StoreLaws.{over_next}
use Rattle.records.specs.declared.scale.Scale.{Scale}
use Rattle.records.specs.Records.{tree_bytes}
use Rattle.records.proofs.Sizes.{tree_bytes_lem}
use Rattle.entries.specs.declared.boxes.BoxWords.{BoxWords}
use Rattle.rows.specs.Tree.{Node, leaf, inner, leaf_order, size}
use Rattle.rows.specs.Rows.{Row, rows}
use Rattle.rows.specs.Ranges.{Range, parts, range_of, ranges}
use Rattle.rows.specs.Output.{tree_record, trees_bytes}
use Rattle.rows.specs.Steps.Flat.{Full, Filled, tree_size, Flat, Scannable, TreesPut}
use Rattle.rows.specs.Steps.Table.{row_at}
use Rattle.rows.proofs.FlatLaws.{length_trees, trees_append}
use Rattle.rows.proofs.RangeLaws.{subtree_within, range_is_subtree}
use Rattle.rows.proofs.TableLaws.{length_table, row_held}
use Rattle.rows.proofs.TreeLaws.{length_rows}

-- ---- the scan, on rows

-- the ranges found at a limit from the rows rs, of which the first has the number at; the first `skip` of them are passed
abbrev pub scan : ℕ → ℕ → ℕ → List Row → List Range
scan limit at skip [] = []
scan limit at zero (r ∷ rs) =
    cond (leb (tree_size r) limit)
    (record { box = r.box; first = at; last = at + tree_size r } ∷ scan limit (at + 1) (tree_size r - 1) rs)
    (scan limit (at + 1) 0 rs)
scan limit at (suc skip) (r ∷ rs) = scan limit (at + 1) skip rs

scan_skip : (limit at k : ℕ) (rs : List Row) → scan limit at k rs ≡ scan limit (at + k) 0 (drop k rs)
scan_skip limit at zero rs = rw add-zero
scan_skip limit at (suc k) [] = refl
scan_skip limit at (suc k) (r ∷ rs) =
    let e : at + suc k ≡ at + 1 + k = omega arith in
    rw e (scan_skip limit (at + 1) k rs)

-- a leaf's row is a tree of one node
leaf_size : (b : BoxWords) (ps : List ℕ) (lo : ℕ) → 0 < length ps → tree_size (record { box = b; head = lo; count = length ps }) ≡ 1
leaf_size b ps lo h = rw (ne_eqb (length ps) 0 (λ e. omega arith))

module _ (limit at lo : ℕ) (b : BoxWords) (l r : Node) (rest : List Row) where
  abbrev hi : ℕ
  hi = lo + length (leaf_order l)

  abbrev below : List Row
  below = rows lo l ++ rows hi r

  -- the root is a range: the rows below it are passed
  skipped : scan limit (at + 1) (size (inner b l r) - 1) (below ++ rest) ≡ scan limit (at + size (inner b l r)) 0 rest
  skipped =
      let k : ℕ = size l + size r in
      let e : size (inner b l r) - 1 ≡ k = omega arith in
      let n : at + size (inner b l r) ≡ at + 1 + k = omega arith in
      let m : length below ≡ k = omega (arith, length-append (rows lo l) (rows hi r), length_rows lo l, length_rows hi r) in
      rw (e, n) (scan_skip limit (at + 1) k (below ++ rest) ∙ ap (scan limit (at + 1 + k) 0) (drop_at below rest k m))

  -- the root is none: its children's ranges follow one another
  parted : scan limit (at + 1) 0 (rows lo l ++ (rows hi r ++ rest)) ≡ ranges limit (at + 1) l ++ scan limit (at + 1 + size l) 0 (rows hi r ++ rest)
      → scan limit (at + 1 + size l) 0 (rows hi r ++ rest) ≡ ranges limit (at + 1 + size l) r ++ scan limit (at + 1 + size l + size r) 0 rest
      → scan limit (at + 1) 0 (below ++ rest) ≡ (ranges limit (at + 1) l ++ ranges limit (at + 1 + size l) r) ++ scan limit (at + size (inner b l r)) 0 rest
  parted in-l in-r =
      let n : at + size (inner b l r) ≡ at + 1 + size l + size r = omega arith in
      let last : List Range = scan limit (at + 1 + size l + size r) 0 rest in
      rw (n, append_assoc (rows lo l) (rows hi r) rest, append_assoc (ranges limit (at + 1) l) (ranges limit (at + 1 + size l) r) last)
      (in-l ∙ ap (λ (xs : List Range). ranges limit (at + 1) l ++ xs) in-r)

  either : (q : Bool) → scan limit (at + 1) (size (inner b l r) - 1) (below ++ rest) ≡ scan limit (at + size (inner b l r)) 0 rest
      → scan limit (at + 1) 0 (below ++ rest) ≡ (ranges limit (at + 1) l ++ ranges limit (at + 1 + size l) r) ++ scan limit (at + size (inner b l r)) 0 rest
      → cond q (record { box = b; first = at; last = at + size (inner b l r) } ∷ scan limit (at + 1) (size (inner b l r) - 1) (below ++ rest))
      (scan limit (at + 1) 0 (below ++ rest))
      ≡ map range_of (cond q (record { number = at; root = inner b l r } ∷ []) (parts limit (at + 1) l ++ parts limit (at + 1 + size l) r))
      ++ scan limit (at + size (inner b l r)) 0 rest
  either true small large = ap (λ (xs : List Range). record { box = b; first = at; last = at + size (inner b l r) } ∷ xs) small
  either false small large = rw (map-append range_of (parts limit (at + 1) l) (parts limit (at + 1 + size l) r)) large

-- a tree's rows give its ranges
scan_tree : (limit : ℕ) → 0 < limit → (at lo : ℕ) (t : Node) (rest : List Row) → Full t
    → scan limit at 0 (rows lo t ++ rest) ≡ ranges limit at t ++ scan limit (at + size t) 0 rest
scan_tree limit some at lo (leaf b ps) rest h = rw (leaf_size b ps lo h, le-leb 1 limit some)
scan_tree limit some at lo (inner b l r) rest h =
    let m : ℕ = lo + length (leaf_order l) in
    let n : max 1 (size (inner b l r)) ≡ size (inner b l r) = omega arith in
    rw n
    (either limit at lo b l r rest (leb (size (inner b l r)) limit) (skipped limit at lo b l r rest)
    (parted limit at lo b l r rest (scan_tree limit some (at + 1) lo l (rows m r ++ rest) h.0)
    (scan_tree limit some (at + 1 + size l) m r rest h.1)))

lone_size : (b : BoxWords) (n : ℕ) (q : Bool) → eqb n 0 ≡ q → tree_size (record { box = b; head = 0; count = n }) ≡ 1
lone_size b n true e = rw e
lone_size b n false e = rw e

scan_whole : (limit : ℕ) → 0 < limit → (t : Node) → Filled t → scan limit 0 0 (rows 0 t) ≡ ranges limit 0 t
scan_whole limit some (leaf b ps) h = rw (lone_size b (length ps) _ refl, le-leb 1 limit some)
scan_whole limit some (inner b l r) h =
    let t : Node = inner b l r in
    ap (scan limit 0 0) (sym (append-nil (rows 0 t))) ∙ scan_tree limit some 0 0 t [] h ∙ append-nil (ranges limit 0 t)

-- ---- what is written

-- one record more, behind those written
one_written : (s : Scale) (xs : List Range) (x : Range) (before trees : List ℕ) (k : ℕ) → length xs ≡ k → 16 * k + 16 ≤ length before
    → trees ≡ over (trees_bytes s xs) before
    → sets trees (16 * k) (tree_bytes (tree_record s x)) ≡ over (trees_bytes s (xs ++ (x ∷ []))) before
one_written s xs x before trees k e room p =
    let w : List ℕ = trees_bytes s xs in
    let b : List ℕ = tree_bytes (tree_record s x) in
    let v : trees_bytes s (xs ++ (x ∷ [])) ≡ w ++ b = trees_append s xs (x ∷ []) ∙ ap (λ (l : List ℕ). w ++ l) (append-nil b) in
    ap (λ (l : List ℕ). sets l (16 * k) b) p
    ∙ over_next w b before (16 * k) (length_trees s xs ∙ ap (λ (n : ℕ). 16 * n) e) (rw (tree_bytes_lem (tree_record s x)).size room)
    ∙ ap (λ (l : List ℕ). over l before) (sym v)

-- ---- the loop

-- a row for a number past the rows
abbrev blank : Row
blank =
    record { box = record { min = record { x = 0; y = 0; z = 0 }; max = record { x = 0; y = 0; z = 0 } }; head = 0; count = 0 }

-- After k records, at row i: the ranges yet to come are those of the rows from i on, and the records of the others are written.
pub record Scanning (limit : ℕ) (s : Scale) (t : Node) (before trees : List ℕ) (i k : ℕ) : Type 0 where
  pub left : drop k (ranges limit 0 t) ≡ scan limit i 0 (drop i (rows 0 t))
  pub counted : k ≤ length (ranges limit 0 t)
  pub within : i ≤ size t
  pub bytes : trees ≡ over (trees_bytes s (take k (ranges limit 0 t))) before

pub begun : (limit : ℕ) → 0 < limit → (s : Scale) (t : Node) (trees : List ℕ) → Filled t → Scanning limit s t trees trees 0 0
begun limit some s t trees h = record { left = sym (scan_whole limit some t h); counted = omega arith; within = omega arith; bytes = refl }

pub ended : (limit : ℕ) (s : Scale) (t : Node) (before trees : List ℕ) (i k : ℕ) → Scanning limit s t before trees i k → size t ≤ i
    → TreesPut limit s t before trees k
ended limit s t before trees i k g h =
    let e : drop k (ranges limit 0 t) ≡ [] = g.left ∙ ap (scan limit i 0) (drop_of_length-le (rows 0 t) {i = i} (omega (arith, length_rows 0 t))) in
    let n : k ≡ length (ranges limit 0 t) = omega (arith, g.counted, length-drop k (ranges limit 0 t), ap length e) in
    record { bytes_are = g.bytes ∙ ap (λ (rs : List Range). over (trees_bytes s rs) before) (take_all k (ranges limit 0 t) (omega arith)); number_is = n }

size_positive : (head : ℕ) (q : Bool) → 0 < cond q (max 1 head) 1
size_positive head true = omega arith
size_positive head false = omega arith

-- a turn at row i, whose tree has n nodes by the table
module _ (limit : ℕ) (s : Scale) (t : Node) (m : ℕ) (table before trees : List ℕ) (i k n : ℕ)
    (f : Flat t m table) (g : Scanning limit s t before trees i k) (h : i < m) (e : n ≡ tree_size (row_at table i)) where
  abbrev row : Row
  row = get_or (rows 0 t) i blank

  abbrev later : ℕ → List Row
  later j = drop j (rows 0 t)

  -- the range that the row would begin
  abbrev pub found : Range
  found = record { box = (row_at table i).box; first = i; last = i + n }

  from_row : later i ≡ row ∷ later (i + 1)
  from_row = rw add-one (drop-cons (rows 0 t) i blank (omega (arith, length_rows 0 t, f.number_is)))

  row_is : row_at table i ≡ row
  row_is = row_held (rows 0 t) m table (length_rows 0 t ∙ sym f.number_is) f.rows_are i blank h

  row_size : n ≡ tree_size row
  row_size = e ∙ ap tree_size row_is

  row_box : (row_at table i).box ≡ row.box
  row_box = ap (λ (r : Row). r.box) row_is

  at_row : drop k (ranges limit 0 t)
      ≡ cond (leb n limit) (found ∷ scan limit (i + 1) (n - 1) (later (i + 1))) (scan limit (i + 1) 0 (later (i + 1)))
  at_row = g.left ∙ ap (scan limit i 0) from_row ∙ rw (row_box, row_size)

  -- over `limit` nodes are no range
  pub passed : limit < n → Scanning limit s t before trees (i + 1) k
  passed big = record { left = at_row ∙ rw (lt-leb n limit big); counted = g.counted; within = omega (arith, f.number_is); bytes = g.bytes }

  pub some_nodes : 0 < n
  some_nodes = rw e (size_positive (row_at table i).head (eqb (row_at table i).count 0))

  module _ (small : n ≤ limit) where
    -- what follows the range that is found
    behind : scan limit (i + 1) (n - 1) (later (i + 1)) ≡ scan limit (i + n) 0 (later (i + n))
    behind =
        let z : i + 1 + (n - 1) ≡ i + n = omega (arith, some_nodes) in
        scan_skip limit (i + 1) (n - 1) (later (i + 1)) ∙ rw (drop-drop (n - 1) (i + 1) (rows 0 t), z)

    next_is : drop k (ranges limit 0 t) ≡ found ∷ scan limit (i + n) 0 (later (i + n))
    next_is = at_row ∙ rw (le-leb n limit small, behind)

    found_in : Memᴰ found (ranges limit 0 t)
    found_in =
        let m : Memᴰ found (drop k (ranges limit 0 t)) = rw next_is (mathlib.Core.List.Memᴰ.head refl) in
        rw (take-append-drop k (ranges limit 0 t)) at (mathlib.Core.List.Memᴰ.append_right (take k (ranges limit 0 t)) m)

    pub found_ends : i + n ≤ size t
    found_ends =
        let p = range_is_subtree limit (omega (arith, some_nodes)) 0 t found found_in in
        let w = subtree_within 0 t p.subtree p.within in
        omega (arith, ap (λ (r : Range). r.last) p.range_is)

    pub found_counted : k < length (ranges limit 0 t)
    found_counted = omega (arith, length-drop k (ranges limit 0 t), ap length next_is)

    pub put : 16 * k + 16 ≤ length before → Scanning limit s t before (sets trees (16 * k) (tree_bytes (tree_record s found))) (i + n) (k + 1)
    put room =
        let taken : take (k + 1) (ranges limit 0 t) ≡ take k (ranges limit 0 t) ++ (found ∷ []) =
        take-add k 1 (ranges limit 0 t) ∙ ap (λ (l : List Range). take k (ranges limit 0 t) ++ take 1 l) next_is in
        record {
          left = sym (drop-drop 1 k (ranges limit 0 t)) ∙ ap (drop 1) next_is;
          counted = omega (arith, found_counted);
          within = found_ends;
          bytes =
              one_written s (take k (ranges limit 0 t)) found before trees k (length-take-le k (ranges limit 0 t) g.counted) room g.bytes
              ∙ ap (λ (rs : List Range). over (trees_bytes s rs) before) (sym taken);
        }

-- ---- for every tree whose rows the table holds

pub record Going (limit : ℕ) (s : Scale) (m : ℕ) (table before trees : List ℕ) (i k : ℕ) : Type 0 where
  pub same_length : length trees ≡ length before
  pub each : (t : Node) → Flat t m table → Scanning limit s t before trees i k

pub start : (limit : ℕ) (s : Scale) (m : ℕ) (table trees : List ℕ) → Scannable limit m table trees → Going limit s m table trees trees 0 0
start limit s m table trees p = record { same_length = refl; each = λ t f. begun limit p.limit_some s t trees f.filled }

pub finish : (limit : ℕ) (s : Scale) (m : ℕ) (table before trees : List ℕ) (i k : ℕ) → Going limit s m table before trees i k → m ≤ i
    → (t : Node) → Flat t m table → TreesPut limit s t before trees k
finish limit s m table before trees i k g h t f = ended limit s t before trees i k (g.each t f) (omega (arith, f.number_is))

-- the table has the tree's rows
pub table_room : (limit m : ℕ) (table trees : List ℕ) → Scannable limit m table trees → 8 * m ≤ length table
table_room limit m table trees p =
    let f = p.flat in
    omega (arith, ap length f.rows_are, length-take (8 * m) table, length_table (rows 0 p.tree), length_rows 0 p.tree, f.number_is)

-- what a turn that writes asks of its numbers
pub record Turn (table trees : List ℕ) (i k n : ℕ) : Type 0 where
  pub some : 0 < n
  pub ends : i + n < 32768
  pub row_room : 8 * i + 8 ≤ length table
  pub record_room : 16 * k + 16 ≤ length trees

module _ (limit : ℕ) (s : Scale) (m : ℕ) (table before trees : List ℕ) (i k n : ℕ)
    (p : Scannable limit m table before) (g : Going limit s m table before trees i k) (h : i < m) (e : n ≡ tree_size (row_at table i)) where
  pub pass : limit < n → Going limit s m table before trees (i + 1) k
  pass big =
      record { same_length = g.same_length; each = λ t f. passed limit s t m table before trees i k n f (g.each t f) h e big }

  module _ (small : n ≤ limit) where
    abbrev t₀ : Node
    t₀ = p.tree

    pub turn : Turn table trees i k n
    turn =
        let f₀ : Flat t₀ m table = p.flat in
        let g₀ : Scanning limit s t₀ before trees i k = g.each t₀ f₀ in
        let l = found_counted limit s t₀ m table before trees i k n f₀ g₀ h e small in
        record {
          some = some_nodes limit s t₀ m table before trees i k n f₀ g₀ h e;
          ends = omega (arith, f₀.few, found_ends limit s t₀ m table before trees i k n f₀ g₀ h e small);
          row_room = omega (arith, table_room limit m table before p);
          record_room = omega (arith, p.room, g.same_length);
        }

    pub write : (trees' : List ℕ) → length trees' ≡ length trees
        → trees' ≡ sets trees (16 * k) (tree_bytes (tree_record s (record { box = (row_at table i).box; first = i; last = i + n })))
        → Going limit s m table before trees' (i + n) (k + 1)
    write trees' l w =
        record {
          same_length = l ∙ g.same_length;
          each = λ t f. rw w (put limit s t m table before trees i k n f (g.each t f) h e small (rw (← g.same_length) turn.record_room));
        }
