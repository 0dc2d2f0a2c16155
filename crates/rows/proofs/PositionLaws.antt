-- The leaves' items, read by the rows' ids and counts, are the leaf order, and no row counts more than its leaf holds. By induction over the tree.
use Prim.Native.Nat.{ℕ, ◌+◌, ◌≤◌}
use native.Mathlib.Omega.{arith}
use native.Mathlib.Nat.{add-zero}
use mathlib.Core.Bool.{Bool, true, false, cond}
use mathlib.Core.List.{List, [], ◌∷◌, ◌++◌, map, append_assoc, append-nil}
use mathlib.Core.List.Memᴰ
use mathlib.Core.List.{Memᴰ}
use mathlib.Core.Logic.{⊎_elim}
use mathlib.Core.Path.{◌≡◌, refl, sym, ap, ap₂, ◌∙◌}
use borrow.Author.Tests.{ne_eqb, eqb-true}
use lib.Dec.{eqb}
use lib.ListN.{length, get_or, drop}
use lib.Seq.{drop_at, drop-drop, get_or-drop}
use Rattle.base.specs.Lists.{up_from}
use Rattle.entries.specs.declared.boxes.BoxWords.{BoxWords}
use Rattle.rows.specs.Positions.{items_in, items_of}
use Rattle.rows.specs.Rows.{Row, rows}
use Rattle.rows.specs.Tree.{Node, leaf, inner, leaf_order}
use Rattle.rows.proofs.TreeLaws.{AtMost}

-- ---- the items of a leaf

head_is : (order : List ℕ) (lo p : ℕ) (rest : List ℕ) → drop lo order ≡ p ∷ rest → get_or order lo 0 ≡ p
head_is order lo p rest e = ap (λ (k : ℕ). get_or order k 0) (sym (add-zero lo)) ∙ sym (get_or-drop lo order 0 0) ∙ ap (λ (l : List ℕ). get_or l 0 0) e

-- the numbers from lo on lead to what stands there
slice_is : (order : List ℕ) (lo : ℕ) (ps rest : List ℕ) → drop lo order ≡ ps ++ rest → map (λ i. get_or order i 0) (up_from lo (length ps)) ≡ ps
slice_is order lo [] rest e = refl
slice_is order lo (p ∷ ps) rest e = ap₂ ◌∷◌ (head_is order lo p (ps ++ rest) e) (slice_is order (lo + 1) ps rest (sym (drop-drop 1 lo order) ∙ ap (drop 1) e))

-- where every leaf has at most one item, its id is that item; else its first position
items_by_lem : (q : Bool) (th : ℕ) (order : List ℕ) (lo : ℕ) (ps rest : List ℕ) → eqb th 1 ≡ q → length ps ≤ th → drop lo order ≡ ps ++ rest
    → map (λ i. cond q i (get_or order i 0)) (up_from (cond (eqb (length ps) 0) lo (cond q (get_or order lo 0) lo)) (length ps)) ≡ ps
items_by_lem q th order lo [] rest t most e = refl
items_by_lem true th order lo (p ∷ []) rest t most e = ap (λ (x : ℕ). x ∷ []) (head_is order lo p rest e)
items_by_lem true th order lo (p ∷ p₂ ∷ ps) rest t most e = absurd (omega (arith, eqb-true th 1 t))
items_by_lem false th order lo (p ∷ ps) rest t most e = rw (ne_eqb (length (p ∷ ps)) 0 (λ n. omega arith)) (slice_is order lo (p ∷ ps) rest e)

pub leaf_items : (th : ℕ) (order : List ℕ) (lo : ℕ) (b : BoxWords) (ps rest : List ℕ) → length ps ≤ th → drop lo order ≡ ps ++ rest
    → items_in th order (record { box = b; head = lo; count = length ps }) ≡ ps
leaf_items th order lo b ps rest most e = items_by_lem (eqb th 1) th order lo ps rest refl most e

items_append : (th : ℕ) (order : List ℕ) (xs ys : List Row) → items_of th order (xs ++ ys) ≡ items_of th order xs ++ items_of th order ys
items_append th order [] ys = refl
items_append th order (x ∷ xs) ys =
    ap (λ (l : List ℕ). items_in th order x ++ l) (items_append th order xs ys)
    ∙ sym (append_assoc (items_in th order x) (items_of th order xs) (items_of th order ys))

-- the leaves' items, by the rows of a tree whose first item stands at lo, are its leaf order
pub rows_items : (th : ℕ) (order : List ℕ) (lo : ℕ) (t : Node) (rest : List ℕ) → AtMost th t → drop lo order ≡ leaf_order t ++ rest
    → items_of th order (rows lo t) ≡ leaf_order t
rows_items th order lo (leaf b ps) rest most e = append-nil _ ∙ leaf_items th order lo b ps rest most e
rows_items th order lo (inner b l r) rest most e =
    let first : drop lo order ≡ leaf_order l ++ (leaf_order r ++ rest) = e ∙ append_assoc (leaf_order l) (leaf_order r) rest in
    let n : ℕ = length (leaf_order l) in
    let second : drop (lo + n) order ≡ leaf_order r ++ rest =
    sym (drop-drop n lo order) ∙ ap (drop n) first ∙ drop_at (leaf_order l) (leaf_order r ++ rest) n refl in
    items_append th order (rows lo l) (rows (lo + length (leaf_order l)) r)
    ∙ ap₂ ◌++◌ (rows_items th order lo l (leaf_order r ++ rest) most.0 first) (rows_items th order (lo + length (leaf_order l)) r rest most.1 second)

-- ---- no row over the threshold

pub rows_at_most : (th lo : ℕ) (t : Node) → AtMost th t → (r : Row) → Memᴰ r (rows lo t) → r.count ≤ th
rows_at_most th lo (leaf b ps) most r m = rw (Memᴰ.eq_of_singleton m) most
rows_at_most th lo (inner b l r₂) most r m =
    ⊎_elim (λ e. rw e (omega arith))
    (λ m'. ⊎_elim (rows_at_most th lo l most.0 r) (rows_at_most th (lo + length (leaf_order l)) r₂ most.1 r) (Memᴰ.append_cases (rows lo l) m'))
    (Memᴰ.cases_cons m)
