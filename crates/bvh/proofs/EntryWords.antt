-- A build over the words of some items is the build over the items: the words hold the same entries, or the build is refused before it reads one.
use Rattle.std.specs.Prelude.{◌≡◌, ℕ, zero, suc, ◌+◌, ◌*◌, ◌<◌, ◌≤◌, Bool, true, false, cond, ◌&&◌, ◌||◌, ltb, leb, ◌⊎◌, List, [], ◌∷◌, ◌++◌, length, get_or, take, drop, Err}
use native.Mathlib.Nat.{add_assoc}
use native.Mathlib.Omega.{arith}
use mathlib.Core.Path.{refl, sym, ap, ◌∙◌, subst}
use mathlib.Core.Logic.{inl, inr, ⊎_elim}
use mathlib.Core.Bool.{or-true}
use mathlib.Core.List.{append-nil}
use lib.Ieee.{Float}
use lib.Seq.{take_at, get_or-append-add}
use borrow.Author.Tests.{lt-ltb, leb-true, leb-false}
use Rattle.bvh.specs.declared.slices.BuildRefusal.TheVariants.{TooManyEntries, ThresholdOutside, BufferTooShort}
use Rattle.bvh.specs.declared.slices.Lengths.{Lengths}
use Rattle.bvh.specs.declared.items.BvhItem.{BvhItem}
use Rattle.bvh.specs.Build.{Build, Entries, short, answer_by, kept, nodes_written, trees_written_by, order_written}
use Rattle.entries.specs.Boxes.{box_from}
use Rattle.bvh.specs.Entry.{entries_of, entries_in, taken_of, Outputs, lent, lengths_of, AnsweredBy}
use Rattle.bvh.specs.Items.{item_words, words_of, box_in, present, marked}
use Rattle.bvh.proofs.MarkedLaws.{marked_present}
use Rattle.bvh.proofs.ItemWords.{length_words, apart, apart_all, length_apart}

-- ---- the entries that the words hold
next_word : (i : BvhItem) (ws : List ℕ) (at : ℕ) → get_or (item_words i ++ ws) (7 + at) 0 ≡ get_or ws at 0
next_word i ws at = get_or-append-add (item_words i) ws at 0

next_box : (i : BvhItem) (ws : List ℕ) (at : ℕ) → box_from (item_words i ++ ws) (7 + at) ≡ box_from ws at
next_box i ws at = simp (add_assoc, next_word i ws)

box_is : (items : List BvhItem) (p : ℕ) → box_from (words_of items) (7 * p + 1) ≡ box_in items p
unfolding box_in
box_is [] p = refl
box_is (i ∷ is) zero = refl
box_is (i ∷ is) (suc p) =
    let far : 7 * suc p + 1 ≡ 7 + (7 * p + 1) = omega arith in
    rw far (next_box i (words_of is) (7 * p + 1) ∙ box_is is p)

marks_are : (items : List BvhItem) → marked 0 (length items) (words_of items) ≡ present 0 items
marks_are items = ap (marked 0 (length items)) (sym (append-nil (words_of items))) ∙ marked_present items []

pub entries_in_lem : (items : List BvhItem) (rest : List ℕ) → entries_in (length items) (take (7 * length items) (words_of items ++ rest)) ≡ entries_of items
unfolding entries_in entries_of
entries_in_lem items rest =
    rw (take_at (words_of items) rest (7 * length items) (length_words items))
    (λ j. record { number = length items; at = λ p. box_is items p j; places = marks_are items j })

-- ---- the build that is refused before it reads an entry
short_words : (n : ℕ) (l : Lengths) → l.entries < 7 * n → short n l ≡ true
short_words n l few = simp (lt-ltb l.entries (7 * n) few, or-true)

-- the words are not read
abbrev Unread : ℕ → Lengths → Type 0
Unread n l = (32767 < n) ⊎ (l.entries < 7 * n)

unread_answer : (limit : ℕ) (e e' : Entries) (th : ℕ) (l : Lengths) → e.number ≡ e'.number → Unread e.number l
    → answer_by limit e th l ≡ answer_by limit e' th l
unfolding answer_by
unread_answer limit e e' th l same (inl many) = rw (← same, lt-ltb 32767 e.number many)
unread_answer limit e e' th l same (inr few) = rw (← same, short_words e.number l few)

-- a refusal that comes before the nodes are counted
abbrev early : Bool → Bool → Build
early many outside = cond many (Err TooManyEntries) (cond outside (Err ThresholdOutside) (Err BufferTooShort))

early_keeps : (many outside : Bool) (w w' before : List ℕ) → kept (early many outside) w before ≡ kept (early many outside) w' before
early_keeps true outside w w' before = refl
early_keeps false true w w' before = refl
early_keeps false false w w' before = refl

unread_kept : (limit : ℕ) (e : Entries) (th : ℕ) (l : Lengths) → Unread e.number l → (w w' before : List ℕ)
    → kept (answer_by limit e th l) w before ≡ kept (answer_by limit e th l) w' before
unfolding answer_by
unread_kept limit e th l (inl many) w w' before = rw (lt-ltb 32767 e.number many)
unread_kept limit e th l (inr few) w w' before =
    rw (short_words e.number l few) (early_keeps (ltb 32767 e.number) (ltb th 1 || ltb 32767 th) w w' before)

-- so nothing hangs on the entries but their number
unread_same : (limit : ℕ) (e e' : Entries) (th : ℕ) (l : Lengths) (r : Build) (o o' : Outputs) → e.number ≡ e'.number → Unread e.number l
    → AnsweredBy limit e th l r o o' → AnsweredBy limit e' th l r o o'
unread_same limit e e' th l r o o' same unread a =
    record {
      answer = a.answer ∙ unread_answer limit e e' th l same unread;
      nodes_are = a.nodes_are ∙ keeps (nodes_written e th) (nodes_written e' th) o.nodes;
      trees_are = a.trees_are ∙ keeps (trees_written_by limit e th) (trees_written_by limit e' th) o.trees;
      order_is = a.order_is ∙ keeps (order_written e th) (order_written e' th) o.order;
    }
  where
    keeps : (w w' before : List ℕ) → kept r w before ≡ kept r w' before
    keeps w w' before = rw a.answer (unread_kept limit e th l unread w w' before)

-- ---- the two together
taken_cases : (n room : ℕ) → ((taken_of n room ≡ n) × (7 * n ≤ room)) ⊎ ((taken_of n room ≡ 0) × ((32767 < n) ⊎ (room < 7 * n)))
taken_cases n room = cases (leb n 32767) (leb (7 * n) room) refl refl
  where
    cases : (s t : Bool) → leb n 32767 ≡ s → leb (7 * n) room ≡ t
        → ((cond (s && t) n 0 ≡ n) × (7 * n ≤ room)) ⊎ ((cond (s && t) n 0 ≡ 0) × ((32767 < n) ⊎ (room < 7 * n)))
    cases true true few fits = inl (refl, leb-true (7 * n) room fits)
    cases true false few fits = inr (refl, inr (leb-false (7 * n) room fits))
    cases false t few fits = inr (refl, inl (leb-false n 32767 few))

pub taken_fits : (n room : ℕ) → (taken_of n room ≤ n) × (7 * taken_of n room ≤ room)
taken_fits n room = ⊎_elim (λ all. omega arith) (λ none. omega arith) (taken_cases n room)

-- What the core answers over the words, the entry point answers over the items.
pub answers : (limit : ℕ) (items : List BvhItem) (th : ℕ) (entries places temp stack rows : List ℕ) (centres : List Float) (r : Build) (o o' : Outputs)
    → let n = length items in
    let held = apart items entries (taken_of n (length entries)) in
    AnsweredBy limit (entries_in n (take (7 * n) held)) th (lengths_of o (lent held places temp stack rows centres)) r o o'
    → AnsweredBy limit (entries_of items) th (lengths_of o (lent entries places temp stack rows centres)) r o o'
unfolding entries_in entries_of
answers limit items th entries places temp stack rows centres r o o' a =
    let n = length items in
    let k = taken_of n (length entries) in
    let fits = taken_fits n (length entries) in
    let same : length (apart items entries k) ≡ length entries = length_apart items entries k fits.0 fits.1 in
    let l = lengths_of o (lent entries places temp stack rows centres) in
    let b : AnsweredBy limit (entries_in n (take (7 * n) (apart items entries k))) th l r o o' = rw same at a in
    ⊎_elim
    (λ all. subst (λ (e : Entries). AnsweredBy limit e th l r o o') (whole all.0) b)
    (λ none. unread_same limit (entries_in n (take (7 * n) (apart items entries k))) (entries_of items) th l r o o' refl none.1 b)
    (taken_cases n (length entries))
  where
    whole : taken_of (length items) (length entries) ≡ length items
        → entries_in (length items) (take (7 * length items) (apart items entries (taken_of (length items) (length entries)))) ≡ entries_of items
    whole all = rw (all, apart_all items entries) (entries_in_lem items (drop (7 * length items) entries))
