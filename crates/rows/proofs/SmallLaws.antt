-- The ids and counts of a tree's rows are small.
use Prim.Native.Nat.{ℕ, zero, suc, ◌+◌, ◌≤◌, ◌<◌}
use native.Mathlib.Omega.{arith}
use mathlib.Core.Path.{◌≡◌, subst}
use mathlib.Core.Bool.{Bool, true, false, cond}
use mathlib.Core.List.{List, [], ◌∷◌, ◌++◌}
use lib.Dec.{eqb}
use lib.ListN.{length, get_or, length-append}
use Rattle.base.proofs.NumberLaws.{below_at}
use Rattle.base.specs.Lists.{Below}
use Rattle.rows.specs.Output.{id_of}
use Rattle.rows.specs.Rows.{Row, rows}
use Rattle.rows.specs.Tree.{Node, leaf, inner, leaf_order, size}
use Rattle.rows.specs.Steps.Decode.{Small, SmallRows}
use Rattle.rows.specs.Steps.Table.{row_at, rows_in}
use Rattle.rows.proofs.TableLaws.{length_rows_in, row_in}

small_in : (th : ℕ) (order : List ℕ) (rs : List Row) (i : ℕ) (d : Row) → SmallRows th order rs → i < length rs
    → Small th order (get_or rs i d)
small_in th order [] i d s h = absurd (omega arith)
small_in th order (r ∷ rs) zero d s h = s.0
small_in th order (r ∷ rs) (suc i) d s h = small_in th order rs i d s.1 (omega arith)

-- Row i is small where all of them are.
pub small_at : (th : ℕ) (order : List ℕ) (m : ℕ) (table : List ℕ) (i : ℕ) → SmallRows th order (rows_in m table) → i < m
    → Small th order (row_at table i)
small_at th order m table i s h =
    let d = row_at table i in
    subst (Small th order) (row_in m table i d h) (small_in th order (rows_in m table) i d s (omega (arith, length_rows_in m table)))

small_append : (th : ℕ) (order : List ℕ) (rs qs : List Row) → SmallRows th order rs → SmallRows th order qs → SmallRows th order (rs ++ qs)
small_append th order [] qs s t = t
small_append th order (r ∷ rs) qs s t = (s.0, small_append th order rs qs s.1 t)

cond_below : (b : Bool) (x y n : ℕ) → x < n → y < n → cond b x y < n
cond_below true x y n h k = h
cond_below false x y n h k = k

small_from : (th : ℕ) (order : List ℕ) (lo : ℕ) (t : Node) → Below 32768 order → length order < 32768 → size t < 32768
    → lo + length (leaf_order t) ≤ length order → SmallRows th order (rows lo t)
small_from th order lo (leaf b ps) places few nodes room =
    let id : id_of th order (record { box = b; head = lo; count = length ps }) < 32768 =
    cond_below (eqb (length ps) 0) lo _ 32768 (omega arith)
    (cond_below (eqb th 1) (get_or order lo 0) lo 32768 (below_at 32768 order lo places (omega arith)) (omega arith)) in
    (record { id = id; items = omega arith; inside = λ some. omega arith }, tt)
small_from th order lo (inner b l r) places few nodes room =
    let both : length (leaf_order l ++ leaf_order r) ≡ length (leaf_order l) + length (leaf_order r) = length-append (leaf_order l) (leaf_order r) in (
      record { id = nodes; items = omega arith; inside = λ some. omega arith },
      small_append th order (rows lo l) (rows (lo + length (leaf_order l)) r)
          (small_from th order lo l places few (omega arith) (omega arith))
          (small_from th order (lo + length (leaf_order l)) r places few (omega arith) (omega arith)),
    )

-- The rows of a tree of few nodes, over few items whose places are small.
pub small_rows : (th : ℕ) (t : Node) → Below 32768 (leaf_order t) → length (leaf_order t) < 32768 → size t < 32768
    → SmallRows th (leaf_order t) (rows 0 t)
small_rows th t places few nodes = small_from th (leaf_order t) 0 t places few nodes (omega arith)
