-- Lists of records: one polygon more of kinds, corners and links, and how many numbers each part has. Assumes nothing.
use Prim.Native.Nat.{ℕ, zero, suc, ◌+◌, ◌*◌, ◌≤◌, ◌<◌}
use native.Mathlib.Nat.{add-zero, mul-le-mul_left}
use native.Mathlib.Numerals.{add-one}
use native.Mathlib.Omega.{arith}
use mathlib.Core.Bool.{Bool, true, false, cond, ◌&&◌}
use mathlib.Core.List.{List, [], ◌∷◌, ◌++◌, append_assoc}
use mathlib.Core.Path.{◌≡◌, refl, sym, ap, ap₂, ◌∙◌}
use borrow.Author.Tests.{eq-eqb, leb-true, leb-false}
use lib.Dec.{leb}
use lib.ListN.{length, get_or, take, drop, set, length-append, length-drop, take-append-drop, get_or-append}
use lib.Seq.{sets, drop_at, drop-drop, take-add, take-take, get_or-drop, get_or-append-add, length-take-le}
use Rattle.std.proofs.Common.{map}
use Rattle.std.specs.List.{range_with_len, list_all}
use Rattle.std.proofs.lemmas.List.{map-id}
use Rattle.std.proofs.lemmas.List.FromFn.{map-range_with_len_more}
use Rattle.std.proofs.lemmas.List.Folds.{list_all-append}
use Rattle.base.specs.Lists.{over}
use Rattle.base.proofs.LittleEndian.{joined, number_bytes}
use Rattle.base.proofs.StoreLaws.{stores_leave, over_next}
use Rattle.polygon.specs.Polygons.{kind_at}
use Rattle.corners.specs.Corners.{none, in_turn, kinds_known, is_triangle, corners_at, corners_of, link_bytes, linked_record, linked_records}

-- ---- what is written from the first place on

-- what is written over as many leaves as many
pub length_over : (written before : List ℕ) → length written ≤ length before → length (over written before) ≡ length before
length_over written before h = omega (arith, length-append written (drop (length written) before), length-drop (length written) before)

-- and what stands behind it as it was
rest_kept : (written before : List ℕ) (m : ℕ) → length written ≡ m → drop m (over written before) ≡ drop m before
rest_kept written before m e = drop_at written (drop (length written) before) m e ∙ ap (λ (k : ℕ). drop k before) e

-- A list is what stands before a part, the part, and what stands behind it.
pub in_parts : (l : List ℕ) (m n : ℕ) → l ≡ take m l ++ (take n (drop m l) ++ drop (m + n) l)
in_parts l m n =
    sym (take-append-drop m l)
    ∙ ap (λ (r : List ℕ). take m l ++ r) (sym (take-append-drop n (drop m l)) ∙ ap (λ (r : List ℕ). take n (drop m l) ++ r) (drop-drop n m l))

-- ---- one list after the other

module _ (m : ℕ) (f : ℕ → List ℕ) where
  pub length_in_turn : (n : ℕ) → ((p : ℕ) → p < n → length (f p) ≡ m) → length (in_turn n f) ≡ m * n
  length_in_turn zero each = omega arith
  length_in_turn (suc n) each =
      omega (arith, length-append (in_turn n f) (f n), length_in_turn n (λ p h. each p (omega arith)), each n (omega arith))

  -- where the numbers of each stand
  pub part_in_turn : (n : ℕ) → ((p : ℕ) → p < n → length (f p) ≡ m) → (p k : ℕ) → p < n → k < m
      → get_or (in_turn n f) (m * p + k) 0 ≡ get_or (f p) k 0
  part_in_turn zero each p k h s = absurd (omega arith)
  part_in_turn (suc n) each p k h s =
      by (leb (suc p) n) refl (length_in_turn n (λ q b. each q (omega arith))) (λ below. part_in_turn n (λ q b. each q (omega arith)) p k below s)
    where
      by : (b : Bool) → leb (suc p) n ≡ b → length (in_turn n f) ≡ m * n → (p < n → get_or (in_turn n f) (m * p + k) 0 ≡ get_or (f p) k 0)
          → get_or (in_turn (suc n) f) (m * p + k) 0 ≡ get_or (f p) k 0
      by true e long earlier =
          let below : suc p ≤ n = leb-true (suc p) n e in
          let far : m * suc p ≤ m * n = mul-le-mul_left m below in
          get_or-append (in_turn n f) (f n) 0 (m * p + k) (omega arith) ∙ earlier below
      by false e long earlier =
          let past = leb-false (suc p) n e in
          let last : p ≡ n = omega arith in
          let at : m * p + k ≡ length (in_turn n f) + k = ap (λ (q : ℕ). m * q + k) last ∙ ap (λ (l : ℕ). l + k) (sym long) in
          ap (λ (i : ℕ). get_or (in_turn (suc n) f) i 0) at
          ∙ get_or-append-add (in_turn n f) (f n) k 0
          ∙ ap (λ (q : ℕ). get_or (f q) k 0) (sym last)

-- ---- kinds

range_more : (n : ℕ) → range_with_len 0 (suc n) ≡ range_with_len 0 n ++ (n ∷ [])
range_more n =
    sym (map-id (range_with_len 0 (suc n)))
    ∙ ap (λ (k : ℕ). map (λ (x : ℕ). x) (range_with_len 0 k)) (sym (add-one n))
    ∙ map-range_with_len_more (λ (x : ℕ). x) 0 n n (omega arith)
    ∙ ap (λ (l : List ℕ). l ++ (n ∷ [])) (map-id (range_with_len 0 n))

and_true : (a : Bool) → a && true ≡ a
and_true true = refl
and_true false = refl

-- asked of the numbers of the records in a range
pub kinds_in_range : (n : ℕ) (bytes : List ℕ) → list_all (λ i. leb (kind_at bytes (16 * i)) 4) (range_with_len 0 n) ≡ kinds_known n bytes
kinds_in_range zero bytes = refl
kinds_in_range (suc n) bytes =
    let known = λ (i : ℕ). leb (kind_at bytes (16 * i)) 4 in
    ap (list_all known) (range_more n)
    ∙ list_all-append known (range_with_len 0 n) (n ∷ [])
    ∙ ap₂ (λ (a b : Bool). a && b) (kinds_in_range n bytes) (and_true (known n))

-- ---- corners

pub three_set : (l : List ℕ) (at a b c : ℕ) → set (set (set l at a) (at + 1) b) (at + 2) c ≡ sets l at (a ∷ b ∷ c ∷ [])
three_set l at a b c =
    let one : at + 1 ≡ suc at = omega arith in
    let two : at + 2 ≡ suc (suc at) = omega arith in
    rw (one, two)

either_three : (t : Bool) (a b c d e f : ℕ) → length (cond t (a ∷ b ∷ c ∷ []) (d ∷ e ∷ f ∷ [])) ≡ 3
either_three true a b c d e f = refl
either_three false a b c d e f = refl

pub length_corners_at : (bytes : List ℕ) (p : ℕ) → length (corners_at bytes p) ≡ 3
unfolding corners_at
length_corners_at bytes p = either_three (is_triangle bytes p) _ _ _ none none none

pub length_corners : (n : ℕ) (bytes : List ℕ) → length (corners_of n bytes) ≡ 3 * n
length_corners n bytes = length_in_turn 3 (corners_at bytes) n (λ p h. length_corners_at bytes p)

-- Once the corners of i polygons are stored, those of one more.
pub corners_next : (bytes before : List ℕ) (i : ℕ) {now next : List ℕ} → 3 * i + 3 ≤ length before
    → now ≡ over (corners_of i bytes) before → next ≡ sets now (3 * i) (corners_at bytes i) → next ≡ over (corners_of (i + 1) bytes) before
corners_next bytes before i {now} {next} h e f =
    let many = length_corners i bytes in
    f
    ∙ ap (λ (l : List ℕ). sets l (3 * i) (corners_at bytes i)) e
    ∙ over_next (corners_of i bytes) (corners_at bytes i) before (3 * i) many (omega (arith, length_corners_at bytes i))
    ∙ ap (λ (k : ℕ). over (corners_of k bytes) before) (sym (add-one i))

-- ---- links

pub length_link_bytes : (links : List ℕ) (p : ℕ) → length (link_bytes links p) ≡ 6
unfolding link_bytes
length_link_bytes links p = (joined (joined (number_bytes 2 _) (number_bytes 2 _)) (number_bytes 2 _)).size

head_of_drop : (l : List ℕ) (k : ℕ) → get_or l k 0 ≡ get_or (drop k l) 0 0
head_of_drop l k = ap (λ (j : ℕ). get_or l j 0) (sym (add-zero k)) ∙ sym (get_or-drop k l 0 0)

-- The record of polygon p is of what stands from its first byte on.
pub record_alone : (links bytes other : List ℕ) (p : ℕ) → drop (16 * p) bytes ≡ drop (16 * p) other
    → linked_record links bytes p ≡ linked_record links other p
unfolding linked_record
record_alone links bytes other p e =
    let kind : get_or bytes (16 * p) 0 ≡ get_or other (16 * p) 0 = head_of_drop bytes (16 * p) ∙ ap (λ (l : List ℕ). get_or l 0 0) e ∙ sym (head_of_drop other (16 * p)) in
    rw (e, kind)

either_sixteen : (t : Bool) (a b : List ℕ) → length a ≡ 16 → length b ≡ 16 → length (cond t a b) ≡ 16
either_sixteen true a b e f = e
either_sixteen false a b e f = f

pub length_linked_record : (links bytes : List ℕ) (p : ℕ) → 16 * p + 16 ≤ length bytes → length (linked_record links bytes p) ≡ 16
unfolding linked_record
length_linked_record links bytes p h =
    let r = take 16 (drop (16 * p) bytes) in
    let whole : length r ≡ 16 = length-take-le 16 (drop (16 * p) bytes) (omega (arith, length-drop (16 * p) bytes)) in
    let front : length (take 10 r) ≡ 10 = length-take-le 10 r (omega arith) in
    either_sixteen (is_triangle bytes p) (take 10 r ++ link_bytes links p) r
    (length-append (take 10 r) (link_bytes links p) ∙ ap₂ ◌+◌ front (length_link_bytes links p)) whole

-- a triangle's record: its first ten bytes, and the links
pub linked_triangle : (links bytes : List ℕ) (p : ℕ) → kind_at bytes (16 * p) ≡ 0 → 16 * p + 16 ≤ length bytes
    → sets bytes (16 * p + 10) (link_bytes links p) ≡ sets bytes (16 * p) (linked_record links bytes p)
unfolding linked_record
linked_triangle links bytes p k h =
    let b = link_bytes links p in
    let past : 16 * p + 10 + 6 ≡ 16 * p + 16 = omega arith in
    let parts : sets bytes (16 * p + 10) b ≡ take (16 * p) bytes ++ (linked_record links bytes p ++ drop (16 * p + 16) bytes) =
    stores_leave bytes b (16 * p + 10) 6 (length_link_bytes links p) (omega arith)
    ∙ ap₂ (λ (l : List ℕ) (n : ℕ). l ++ (b ++ drop n bytes)) (take-add (16 * p) 10 bytes) past
    ∙ append_assoc (take (16 * p) bytes) (take 10 (drop (16 * p) bytes)) (b ++ drop (16 * p + 16) bytes)
    ∙ ap (λ (r : List ℕ). take (16 * p) bytes ++ r) (sym (append_assoc (take 10 (drop (16 * p) bytes)) b (drop (16 * p + 16) bytes)))
    ∙ rw (eq-eqb (kind_at bytes (16 * p)) 0 k, take-take 10 16 (drop (16 * p) bytes) (omega arith)) in
    parts ∙ sym (stores_leave bytes (linked_record links bytes p) (16 * p) 16 (length_linked_record links bytes p h) h)

-- another kind's record: what is there
pub linked_other : (links bytes : List ℕ) (p : ℕ) → is_triangle bytes p ≡ false → 16 * p + 16 ≤ length bytes
    → bytes ≡ sets bytes (16 * p) (linked_record links bytes p)
unfolding linked_record
linked_other links bytes p k h =
    let parts : bytes ≡ take (16 * p) bytes ++ (linked_record links bytes p ++ drop (16 * p + 16) bytes) = in_parts bytes (16 * p) 16 ∙ rw k in
    parts ∙ sym (stores_leave bytes (linked_record links bytes p) (16 * p) 16 (length_linked_record links bytes p h) h)

pub length_linked : (n : ℕ) (links bytes : List ℕ) → 16 * n ≤ length bytes → length (linked_records n links bytes) ≡ 16 * n
length_linked n links bytes h = length_in_turn 16 (linked_record links bytes) n (λ p below. length_linked_record links bytes p (omega arith))

-- Once the links of i polygons are stored, those of one more.
pub links_next : (links before : List ℕ) (i : ℕ) {now next : List ℕ} → 16 * i + 16 ≤ length before → now ≡ over (linked_records i links before) before
    → next ≡ sets now (16 * i) (linked_record links now i) → next ≡ over (linked_records (i + 1) links before) before
links_next links before i {now} {next} h e f =
    let many = length_linked i links before (omega arith) in
    let same = record_alone links now before i (ap (drop (16 * i)) e ∙ rest_kept (linked_records i links before) before (16 * i) many) in
    f
    ∙ ap₂ (λ (l r : List ℕ). sets l (16 * i) r) e same
    ∙ over_next (linked_records i links before) (linked_record links before i) before (16 * i) many (omega (arith, length_linked_record links before i h))
    ∙ ap (λ (k : ℕ). over (linked_records k links before) before) (sym (add-one i))
