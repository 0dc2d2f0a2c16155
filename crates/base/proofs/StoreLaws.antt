-- Runs of stores, one after the other; what a run leaves of a list; and what is written part after part is written as one. Assumes nothing.
use Prim.Native.Nat.{ℕ, suc, ◌+◌, ◌≤◌, ◌<◌}
use native.Mathlib.Nat.{add-zero}
use native.Mathlib.Numerals.{add-one}
use native.Mathlib.Omega.{arith}
use mathlib.Core.Path.{◌≡◌, sym, ap, ap₂, ◌∙◌}
use mathlib.Core.List.{List, [], ◌∷◌, ◌++◌, append_assoc}
use lib.ListN.{length, get_or, take, drop, set, length-append, length-drop, take-append-drop}
use lib.Seq.{sets, sets-eq, take_at, drop-append-add, drop-drop, drop-cons, set_at, length-take-le}
use Rattle.base.specs.Lists.{up_from, over}
use Rattle.base.proofs.NumberLaws.{length_up, up_more}

-- ---- what is left of a list

-- the next element and what is left after it
pub rest_one : (xs : List ℕ) (i : ℕ) → i < length xs → drop i xs ≡ get_or xs i 0 ∷ drop (i + 1) xs
rest_one xs i h = rw add-one (drop-cons xs i 0 h)

-- what stands at a number, and what stands before it
pub cut_at : {A : Type 0} (l : List A) (k : ℕ) (x : A) (xs : List A) → drop k l ≡ x ∷ xs → (l ≡ take k l ++ x ∷ xs) × (length (take k l) ≡ k)
cut_at l k x xs e =
    let long : length (drop k l) ≡ suc (length xs) = ap length e in
    (sym (take-append-drop k l) ∙ ap (λ t. take k l ++ t) e, length-take-le k l (omega (arith, length-drop k l)))

-- ---- a run of stores

-- one run after another is the run of both
pub sets_append : {A : Type 0} (xs ys l : List A) (i k : ℕ) → i + length xs ≡ k → sets (sets l i xs) k ys ≡ sets l i (xs ++ ys)
sets_append [] ys l i k e = ap (λ (j : ℕ). sets l j ys) (sym e ∙ add-zero i)
sets_append (x ∷ xs) ys l i k e = sets_append xs ys (set l i x) (suc i) k (omega arith)

-- A run of n stores and the run from the next place on are one run.
pub store_next : (out vs ws : List ℕ) (at n : ℕ) {a b : List ℕ} → length vs ≡ n → a ≡ sets out at vs → b ≡ sets a (at + n) ws
    → b ≡ sets out at (vs ++ ws)
store_next out vs ws at n e p q =
    q ∙ ap (λ (l : List ℕ). sets l (at + n) ws) p ∙ sets_append vs ws out at (at + n) (ap (λ (k : ℕ). at + k) e)

-- Four runs, at places that count from the first.
pub four_stores : (out v w x y : List ℕ) (at i j k : ℕ) {a b c d : List ℕ} → length v ≡ i → length (v ++ w) ≡ j → length (v ++ w ++ x) ≡ k
    → a ≡ sets out at v → b ≡ sets a (at + i) w → c ≡ sets b (at + j) x → d ≡ sets c (at + k) y → d ≡ sets out at (v ++ w ++ x ++ y)
four_stores out v w x y at i j k ei ej ek ea eb ec ed =
    store_next out (v ++ w ++ x) y at k ek (store_next out (v ++ w) x at j ej (store_next out v w at i ei ea eb) ec) ed

-- What a run of n stores leaves: the list before it, what was stored, and the list after it.
pub stores_leave : (out vs : List ℕ) (at n : ℕ) → length vs ≡ n → at + n ≤ length out
    → sets out at vs ≡ take at out ++ (vs ++ drop (at + n) out)
stores_leave out vs at n e h =
    sets-eq vs out at (rw e h)
    ∙ ap (λ (k : ℕ). take at out ++ vs ++ drop (at + k) out) e
    ∙ append_assoc (take at out) vs (drop (at + n) out)

-- one store more of numbers that rise by one
pub up_stored : (l : List ℕ) (from id i : ℕ) → set (sets l from (up_from id i)) (from + i) (id + i) ≡ sets l from (up_from id (i + 1))
up_stored l from id i =
    sets_append (up_from id i) ((id + i) ∷ []) l from (from + i) (ap (λ (k : ℕ). from + k) (length_up id i))
    ∙ ap (sets l from) (sym (up_more id i))

-- ---- what is written from the first place on

pub sets_over : (xs l : List ℕ) → length xs ≤ length l → sets l 0 xs ≡ over xs l
sets_over xs l h =
    let e : 0 + length xs ≡ length xs = omega arith in
    sets-eq xs l 0 (omega arith) ∙ ap (λ (k : ℕ). xs ++ drop k l) e

-- another part stored behind what is written
pub over_next : (written part before : List ℕ) (m : ℕ) → length written ≡ m → m + length part ≤ length before
    → sets (over written before) m part ≡ over (written ++ part) before
over_next written part before m e h =
    ap (λ (l : List ℕ). sets l m part) (sym (sets_over written before (omega arith)))
    ∙ sets_append written part before 0 m (omega arith)
    ∙ sets_over (written ++ part) before (omega (arith, length-append written part))

-- another part behind what is written
pub over_more : (written part before : List ℕ) (m n : ℕ) → length written ≡ m → length part ≡ n
    → take m (over written before) ++ (part ++ drop (m + n) (over written before)) ≡ over (written ++ part) before
over_more written part before m n e f =
    let kept : take m (over written before) ≡ written = take_at written (drop (length written) before) m e in
    let past : drop (m + n) (over written before) ≡ drop (length (written ++ part)) before =
    ap (λ (k : ℕ). drop (k + n) (over written before)) (sym e)
    ∙ drop-append-add written (drop (length written) before) n
    ∙ drop-drop n (length written) before
    ∙ ap (λ (k : ℕ). drop k before) (ap (λ (k : ℕ). length written + k) (sym f) ∙ sym (length-append written part)) in
    ap₂ (λ (a b : List ℕ). a ++ (part ++ b)) kept past ∙ sym (append_assoc written part (drop (length (written ++ part)) before))

-- one number behind what is written
pub over_one : (written before : List ℕ) (x i : ℕ) → length written ≡ i → i < length before
    → set (over written before) i x ≡ over (written ++ (x ∷ [])) before
over_one written before x i e h =
    let cut : drop (length written) before ≡ get_or before i 0 ∷ drop (suc i) before = ap (λ (k : ℕ). drop k before) e ∙ drop-cons before i 0 h in
    let next : suc i ≡ length (written ++ (x ∷ [])) = omega (arith, length-append written (x ∷ [])) in
    ap (λ (l : List ℕ). set (written ++ l) i x) cut
    ∙ set_at written (get_or before i 0) (drop (suc i) before) x i e
    ∙ ap (λ (k : ℕ). written ++ x ∷ drop k before) next
    ∙ sym (append_assoc written (x ∷ []) (drop (length (written ++ (x ∷ []))) before))
