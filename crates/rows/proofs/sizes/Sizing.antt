-- Laws of `sized`: its numbers stay within the list, and over a tree's bare rows it gives its rows, where no leaf is empty.
use Prim.Native.Nat.{ℕ, zero, suc, ◌+◌, ◌≤◌, ◌<◌}
use native.Mathlib.Omega.{arith}
use native.Mathlib.Nat.{le_of_suc-le-suc, zero-add, suc-add}
use mathlib.Core.Bool.{Bool, true, false, cond}
use mathlib.Core.List.{List, [], ◌∷◌, ◌++◌, append_assoc, append-nil}
use mathlib.Core.Path.{◌≡◌, refl, sym, ap, ◌∙◌}
use lib.Dec.{eqb}
use lib.ListN.{length, get_or}
use borrow.Author.Tests.{ne_eqb}
use Rattle.rows.specs.Steps.Flat.{Full}
use Rattle.rows.specs.Rows.{Row, rows}
use Rattle.rows.specs.Tree.{Node, leaf, inner, leaf_order, size}
use Rattle.rows.specs.Steps.Sizes.{bare_rows, size_at, sized}
use Rattle.rows.proofs.TreeLaws.{length_rows}

-- ---- by place

pub size_out : (rs : List Row) (j : ℕ) → length rs ≤ j → size_at rs j ≡ 0
size_out [] j h = refl
size_out (r ∷ rs) zero h = absurd (omega arith)
size_out (r ∷ rs) (suc j) h = size_out rs j (le_of_suc-le-suc h)

pub size_in : (rs : List Row) (j : ℕ) (d : Row) → j < length rs → size_at rs j ≡ cond (eqb (get_or rs j d).count 0) (get_or rs j d).head 1
size_in [] j d h = absurd (omega arith)
size_in (r ∷ rs) zero d h = refl
size_in (r ∷ rs) (suc j) d h = size_in rs j d (le_of_suc-le-suc h)

pub size_behind : (xs ys : List Row) (i j : ℕ) → length xs ≡ i → size_at (xs ++ ys) (i + j) ≡ size_at ys j
size_behind [] ys i j e = rw (← e, zero-add)
size_behind (x ∷ xs) ys zero j e = absurd (omega arith)
size_behind (x ∷ xs) ys (suc i) j e = rw suc-add (size_behind xs ys i j (omega arith))

pub length_sized : (rs : List Row) → length (sized rs) ≡ length rs
length_sized [] = refl
length_sized (r ∷ rs) = ap suc (length_sized rs)

head_bound : (b : Bool) (h x y n : ℕ) → x ≤ n → x + y ≤ n → cond b (cond b (1 + x + y) h) 1 ≤ suc n
head_bound true h x y n p q = omega arith
head_bound false h x y n p q = omega arith

-- a tree ends within the list
pub bound : (rs : List Row) (j : ℕ) → j ≤ length rs → j + size_at (sized rs) j ≤ length rs
bound [] j h = omega arith
bound (r ∷ rs) zero h =
    let a : ℕ = size_at (sized rs) 0 in
    let p : 0 + a ≤ length rs = bound rs 0 (omega arith) in
    let q : a + size_at (sized rs) a ≤ length rs = bound rs a (omega arith) in
    omega (arith, head_bound (eqb r.count 0) r.head a (size_at (sized rs) a) (length rs) (omega arith) q)
bound (r ∷ rs) (suc j) h =
    let p : j + size_at (sized rs) j ≤ length rs = bound rs j (le_of_suc-le-suc h) in
    omega arith

-- ---- over a tree's rows

size_head : (lo : ℕ) (t : Node) (rs : List Row) → Full t → size_at (rows lo t ++ rs) 0 ≡ size t
size_head lo (leaf b ps) rs f = rw (ne_eqb (length ps) 0 (λ e. omega arith))
size_head lo (inner b l r) rs f = refl

sized_rows : (lo : ℕ) (t : Node) (rs : List Row) → Full t → sized (bare_rows lo t ++ rs) ≡ rows lo t ++ sized rs
sized_rows lo (leaf b ps) rs f = rw (ne_eqb (length ps) 0 (λ e. omega arith))
sized_rows lo (inner b l r) rs f =
    let hi : ℕ = lo + length (leaf_order l) in
    let rest : List Row = rows hi r ++ sized rs in
    let e : sized ((bare_rows lo l ++ bare_rows hi r) ++ rs) ≡ rows lo l ++ rest =
    ap sized (append_assoc (bare_rows lo l) (bare_rows hi r) rs)
    ∙ sized_rows lo l (bare_rows hi r ++ rs) f.0
    ∙ ap (λ (qs : List Row). rows lo l ++ qs) (sized_rows hi r rs f.1) in
    let first : size_at (rows lo l ++ rest) 0 ≡ size l = size_head lo l rest f.0 in
    let second : size_at (rows lo l ++ rest) (size l) ≡ size r =
    ap (size_at (rows lo l ++ rest)) (omega arith) ∙ size_behind (rows lo l) rest (size l) 0 (length_rows lo l) ∙ size_head hi r (sized rs) f.1 in
    rw (e, first, second, append_assoc (rows lo l) (rows hi r) (sized rs))

-- the sizes put into a tree's bare rows are those of its rows
pub sized_tree : (t : Node) → Full t → sized (bare_rows 0 t) ≡ rows 0 t
sized_tree t f = ap sized (sym (append-nil (bare_rows 0 t))) ∙ sized_rows 0 t [] f ∙ append-nil (rows 0 t)
