-- The corners of records are what links are made from, and storing links leaves them as they were. Assumes nothing.
use Prim.Native.Nat.{ℕ, zero, suc, ◌+◌, ◌-◌, ◌*◌, ◌/◌, ◌%◌, ◌≤◌, ◌<◌}
use native.Mathlib.Nat.{add-zero}
use native.Mathlib.Omega.{arith}
use mathlib.Core.Bool.{Bool, true, false, not, cond}
use mathlib.Core.List.{List, [], ◌∷◌, ◌++◌}
use mathlib.Core.Path.{◌≡◌, refl, sym, ap, ap₂, subst, ◌∙◌}
use borrow.Author.Tests.{eqb-true, eqb-false, leb-true, leb-false}
use lib.Dec.{T, eqb, leb}
use lib.ListN.{length, get_or, take, drop, length-drop, get_or-append, get_or-eq_default}
use lib.Seq.{get_or-drop, get_or-take, length-take-le}
use Rattle.base.specs.LittleEndian.{le_at}
use Rattle.corners.specs.Corners.{none, next_of, Corners, in_turn, is_triangle, corner_of, corners_at, corners_of}
use Rattle.corners.specs.Corners.{link_bytes, linked_record, linked_records, links_put}
use Rattle.corners.proofs.CornerLaws.{length_corners_at, length_corners, length_linked_record, length_linked, part_in_turn}

-- ---- Corners

-- Of three numbers, one that is not none is below 32,768, and so is the next.
record Three (l : List ℕ) : Type 0 where
  pub fit : (k : ℕ) → k < 3 → get_or l k 0 ≤ 65535
  pub small : (k j : ℕ) → k < 3 → j < 3 → not (eqb (get_or l k 0) none) ≡ true → get_or l j 0 < 32768

three : (l : List ℕ) (a b c : ℕ) → l ≡ a ∷ b ∷ c ∷ [] → a < 32768 → b < 32768 → c < 32768 → Three l
three l a b c e ha hb hc =
    let each : (j : ℕ) → j < 3 → get_or l j 0 < 32768 = λ j h. subst (λ (m : List ℕ). get_or m j 0 < 32768) (sym e) (of j h) in
    record { fit = λ k h. omega (arith, each k h); small = λ k j hk hj t. each j hj }
  where
    of : (j : ℕ) → j < 3 → get_or (a ∷ b ∷ c ∷ []) j 0 < 32768
    of zero h = ha
    of (suc zero) h = hb
    of (suc (suc zero)) h = hc
    of (suc (suc (suc j))) h = absurd (omega arith)

three_none : Three (none ∷ none ∷ none ∷ [])
three_none = record { fit = λ k h. omega (arith, ap (λ (x : ℕ). x) (is k h)); small = λ k j hk hj t. absurd (never k hk t) }
  where
    is : (k : ℕ) → k < 3 → get_or (none ∷ none ∷ none ∷ []) k 0 ≡ none
    is zero h = refl
    is (suc zero) h = refl
    is (suc (suc zero)) h = refl
    is (suc (suc (suc k))) h = absurd (omega arith)

    never : (k : ℕ) → k < 3 → not (eqb (get_or (none ∷ none ∷ none ∷ []) k 0) none) ≡ true → ⊥
    never zero h t = subst T (sym t) tt
    never (suc zero) h t = subst T (sym t) tt
    never (suc (suc zero)) h t = subst T (sym t) tt
    never (suc (suc (suc k))) h t = omega arith

corners_three : (bytes : List ℕ) (p : ℕ) → Three (corners_at bytes p)
unfolding corners_at
corners_three bytes p = by (is_triangle bytes p)
  where
    by : (t : Bool) → Three (cond t (corner_of bytes p 0 ∷ corner_of bytes p 1 ∷ corner_of bytes p 2 ∷ []) (none ∷ none ∷ none ∷ []))
    by true = three _ (corner_of bytes p 0) (corner_of bytes p 1) (corner_of bytes p 2) refl (omega arith) (omega arith) (omega arith)
    by false = three_none

corner_stands : (n : ℕ) (bytes : List ℕ) (p k : ℕ) → p < n → k < 3 → get_or (corners_of n bytes) (3 * p + k) 0 ≡ get_or (corners_at bytes p) k 0
corner_stands n bytes p k = part_in_turn 3 (corners_at bytes) n (λ q h. length_corners_at bytes q) p k

-- The corner that a side leads to is one of the same three.
next_slot : (s : ℕ) → (j : ℕ) × (j < 3) × (next_of s ≡ 3 * (s / 3) + j)
unfolding next_of
next_slot s = by (eqb (s % 3) 2) refl
  where
    by : (b : Bool) → eqb (s % 3) 2 ≡ b → (j : ℕ) × (j < 3) × (cond b (s - 2) (s + 1) ≡ 3 * (s / 3) + j)
    by true e = let two = eqb-true (s % 3) 2 e in (0, omega arith, omega arith)
    by false e = let other = eqb-false (s % 3) 2 e in (s % 3 + 1, omega arith, omega arith)

-- What `unpack_corners` stores is what the crate above asks for.
pub corners_hold : (n : ℕ) (bytes : List ℕ) → n ≤ 32767 → Corners (corners_of n bytes)
corners_hold n bytes h =
    let long = length_corners n bytes in
    let at : (s : ℕ) → s < length (corners_of n bytes) → get_or (corners_of n bytes) s 0 ≡ get_or (corners_at bytes (s / 3)) (s % 3) 0 = λ s below.
    let cut : s ≡ 3 * (s / 3) + s % 3 = omega arith in
    ap (λ (i : ℕ). get_or (corners_of n bytes) i 0) cut ∙ corner_stands n bytes (s / 3) (s % 3) (omega (arith, long, below)) (omega arith) in
    record {
      few = omega arith;
      threes = omega arith;
      fit = λ s. by_length (leb (suc s) (length (corners_of n bytes))) s refl (at s);
      small = λ s below t.
          let next = next_slot s in
          let own = corners_three bytes (s / 3) in
          let test = subst (λ (x : ℕ). not (eqb x none) ≡ true) (at s below) t in
          let polygon : s / 3 < n = omega (arith, long, below) in
          let next_at = ap (λ (i : ℕ). get_or (corners_of n bytes) i 0) next.2 ∙ corner_stands n bytes (s / 3) next.0 polygon next.1 in (
            subst (λ (x : ℕ). x < 32768) (sym (at s below)) (own.small (s % 3) (s % 3) (omega arith) (omega arith) test),
            subst (λ (x : ℕ). x < 32768) (sym next_at) (own.small (s % 3) next.0 (omega arith) next.1 test),
          );
    }
  where
    by_length : (b : Bool) (s : ℕ) → leb (suc s) (length (corners_of n bytes)) ≡ b
        → (s < length (corners_of n bytes) → get_or (corners_of n bytes) s 0 ≡ get_or (corners_at bytes (s / 3)) (s % 3) 0)
        → get_or (corners_of n bytes) s 0 ≤ 65535
    by_length true s e at =
        subst (λ (x : ℕ). x ≤ 65535) (sym (at (leb-true _ _ e))) ((corners_three bytes (s / 3)).fit (s % 3) (omega arith))
    by_length false s e at =
        let past = leb-false (suc s) (length (corners_of n bytes)) e in
        let none_there = get_or-eq_default (corners_of n bytes) 0 {n = s} (omega arith) in
        omega arith

-- ---- links_forget

-- The first ten bytes of a record are no links.
front_kept : (links bytes : List ℕ) (p j : ℕ) → 16 * p + 16 ≤ length bytes → j < 10 → get_or (linked_record links bytes p) j 0 ≡ get_or bytes (16 * p + j) 0
unfolding linked_record
front_kept links bytes p j h k = by (is_triangle bytes p)
  where
    own : get_or (take 16 (drop (16 * p) bytes)) j 0 ≡ get_or bytes (16 * p + j) 0
    own = get_or-take 16 (drop (16 * p) bytes) j 0 (omega arith) ∙ get_or-drop (16 * p) bytes j 0

    ten : length (take 10 (take 16 (drop (16 * p) bytes))) ≡ 10
    ten =
        let whole = length-take-le 16 (drop (16 * p) bytes) (omega (arith, length-drop (16 * p) bytes)) in
        length-take-le 10 (take 16 (drop (16 * p) bytes)) (omega arith)

    by : (t : Bool) → get_or (cond t (take 10 (take 16 (drop (16 * p) bytes)) ++ link_bytes links p) (take 16 (drop (16 * p) bytes))) j 0
        ≡ get_or bytes (16 * p + j) 0
    by true =
        get_or-append (take 10 (take 16 (drop (16 * p) bytes))) (link_bytes links p) 0 j (omega (arith, ten))
        ∙ get_or-take 10 (take 16 (drop (16 * p) bytes)) j 0 (omega arith)
        ∙ own
    by false = own

module _ (n : ℕ) (links bytes : List ℕ) (room : 16 * n ≤ length bytes) where
  pub byte_kept : (p j : ℕ) → p < n → j < 10 → get_or (links_put n links bytes) (16 * p + j) 0 ≡ get_or bytes (16 * p + j) 0
  unfolding links_put
  byte_kept p j h k =
      let records = linked_records n links bytes in
      let long = length_linked n links bytes room in
      get_or-append records (drop (length records) bytes) 0 (16 * p + j) (omega arith)
      ∙ part_in_turn 16 (linked_record links bytes) n (λ q b. length_linked_record links bytes q (omega arith)) p j h (omega arith)
      ∙ front_kept links bytes p j (omega arith) k

  pub two_kept : (p j : ℕ) → p < n → j < 9 → le_at 2 (links_put n links bytes) (16 * p + j) ≡ le_at 2 bytes (16 * p + j)
  unfolding le_at
  two_kept p j h k =
      let next : 16 * p + j + 1 ≡ 16 * p + (j + 1) = omega arith in
      let low = byte_kept p j h (omega arith) in
      let high = byte_kept p (j + 1) h (omega arith) in
      rw (next, low, high)

  corner_kept : (p slot : ℕ) → p < n → slot < 3 → corner_of (links_put n links bytes) p slot ≡ corner_of bytes p slot
  corner_kept p slot h k =
      let at : 16 * p + 4 + 2 * slot ≡ 16 * p + (4 + 2 * slot) = omega arith in
      ap (λ (x : ℕ). x % 32768)
      (ap (le_at 2 (links_put n links bytes)) at ∙ two_kept p (4 + 2 * slot) h (omega arith) ∙ ap (le_at 2 bytes) (sym at))

  kept_at : (p : ℕ) → p < n → corners_at (links_put n links bytes) p ≡ corners_at bytes p
  unfolding corners_at
  kept_at p h =
      let kind : get_or (links_put n links bytes) (16 * p) 0 ≡ get_or bytes (16 * p) 0 =
      ap (λ (i : ℕ). get_or (links_put n links bytes) i 0) (sym (add-zero (16 * p)))
      ∙ byte_kept p 0 h (omega arith)
      ∙ ap (λ (i : ℕ). get_or bytes i 0) (add-zero (16 * p)) in
      let first = corner_kept p 0 h (omega arith) in
      let second = corner_kept p 1 h (omega arith) in
      let third = corner_kept p 2 h (omega arith) in
      rw (kind, first, second, third)

pub in_turn_same : (f g : ℕ → List ℕ) (n : ℕ) → ((p : ℕ) → p < n → f p ≡ g p) → in_turn n f ≡ in_turn n g
in_turn_same f g zero h = refl
in_turn_same f g (suc n) h = ap₂ (λ (a b : List ℕ). a ++ b) (in_turn_same f g n (λ p below. h p (omega arith))) (h n (omega arith))

-- Storing links leaves the corners: links that a list had before do not matter.
pub links_forget : (n : ℕ) (links bytes : List ℕ) → 16 * n ≤ length bytes → corners_of n (links_put n links bytes) ≡ corners_of n bytes
links_forget n links bytes room = in_turn_same (corners_at (links_put n links bytes)) (corners_at bytes) n (kept_at n links bytes room)
