-- What the records hold once they are linked: the links of a triangle's three sides, each what 01 says of it (sides ByMeaning). Assumes nothing.
use Prim.Native.Nat.{ℕ, zero, suc, ◌+◌, ◌*◌, ◌≤◌, ◌<◌}
use native.Mathlib.Omega.{arith}
use mathlib.Core.Bool.{true}
use mathlib.Core.List.{List, [], ◌++◌, append_assoc, append-nil}
use mathlib.Core.Path.{◌≡◌, sym, ap, subst, ◌∙◌}
use lib.ListN.{length, get_or, take, drop, length-drop, get_or-append}
use lib.Seq.{length-take-le}
use Rattle.base.proofs.LittleEndian.{number_bytes, joined, le_after, le_back}
use Rattle.base.specs.LittleEndian.{little_endian, le_at}
use Rattle.corners.proofs.CornerLaws.{length_corners, length_linked, length_linked_record, part_in_turn}
use Rattle.corners.proofs.LinkLaws.{corners_hold}
use Rattle.corners.specs.Corners.{is_triangle, corners_of, link_bytes, linked_record, linked_records, links_put}
use Rattle.sides.proofs.ByMeaning.{by_edge, link_by_meaning}
use Rattle.sides.proofs.Meaning.{link_at}
use Rattle.sides.specs.Links.{link_of, links_of}
use Rattle.sides.specs.Meaning.{LinkMeaning}
use Rattle.edges.specs.Edges.{linked}

-- ---- where a link stands

module _ (a b c : ℕ) where
  abbrev six : List ℕ
  six = little_endian 2 a ++ little_endian 2 b ++ little_endian 2 c

  -- the numbers stand one after the other
  in_a_row : six ≡ little_endian 2 a ++ (little_endian 2 b ++ little_endian 2 c)
  in_a_row = append_assoc (little_endian 2 a) (little_endian 2 b) (little_endian 2 c)

  first_back : a < 65536 → le_at 2 six 0 ≡ a
  first_back h = ap (λ (l : List ℕ). le_at 2 l 0) in_a_row ∙ le_back 2 a (little_endian 2 b ++ little_endian 2 c) h

  second_back : b < 65536 → le_at 2 six 2 ≡ b
  second_back h =
      ap (λ (l : List ℕ). le_at 2 l 2) in_a_row
      ∙ le_after 2 (little_endian 2 a) (little_endian 2 b ++ little_endian 2 c) 2 0 (number_bytes 2 a).size
      ∙ le_back 2 b (little_endian 2 c) h

  third_back : c < 65536 → le_at 2 six 4 ≡ c
  third_back h =
      le_after 2 (little_endian 2 a ++ little_endian 2 b) (little_endian 2 c) 4 0 (joined (number_bytes 2 a) (number_bytes 2 b)).size
      ∙ ap (λ (l : List ℕ). le_at 2 l 0) (sym (append-nil (little_endian 2 c)))
      ∙ le_back 2 c [] h

link_bytes_at : (links : List ℕ) (p k : ℕ) → k < 3 → get_or links (3 * p + k) 0 < 65536 → le_at 2 (link_bytes links p) (2 * k) ≡ get_or links (3 * p + k) 0
unfolding link_bytes
link_bytes_at links p zero h fit =
    let at : 3 * p + 0 ≡ 3 * p = omega arith in
    rw at (first_back (get_or links (3 * p) 0) (get_or links (3 * p + 1) 0) (get_or links (3 * p + 2) 0) (subst (λ (s : ℕ). get_or links s 0 < 65536) at fit))
link_bytes_at links p (suc zero) h fit = second_back (get_or links (3 * p) 0) (get_or links (3 * p + 1) 0) (get_or links (3 * p + 2) 0) fit
link_bytes_at links p (suc (suc zero)) h fit = third_back (get_or links (3 * p) 0) (get_or links (3 * p + 1) 0) (get_or links (3 * p + 2) 0) fit
link_bytes_at links p (suc (suc (suc k))) h fit = absurd (omega arith)

module _ (n : ℕ) (links bytes : List ℕ) (room : 16 * n ≤ length bytes) where
  byte_put : (p j : ℕ) → p < n → j < 16 → get_or (links_put n links bytes) (16 * p + j) 0 ≡ get_or (linked_record links bytes p) j 0
  unfolding links_put
  byte_put p j h k =
      let records = linked_records n links bytes in
      let long = length_linked n links bytes room in
      get_or-append records (drop (length records) bytes) 0 (16 * p + j) (omega arith)
      ∙ part_in_turn 16 (linked_record links bytes) n (λ q b. length_linked_record links bytes q (omega arith)) p j h (omega arith)

  two_put : (p j : ℕ) → p < n → j < 15 → le_at 2 (links_put n links bytes) (16 * p + j) ≡ le_at 2 (linked_record links bytes p) j
  unfolding le_at
  two_put p j h k =
      let next : 16 * p + j + 1 ≡ 16 * p + (j + 1) = omega arith in
      let low = byte_put p j h (omega arith) in
      let high = byte_put p (j + 1) h (omega arith) in
      rw (next, low, high)

  -- Behind the first ten bytes of a triangle's record stand its three links.
  pub link_put : (p k : ℕ) → p < n → k < 3 → is_triangle bytes p ≡ true → get_or links (3 * p + k) 0 < 65536
      → le_at 2 (links_put n links bytes) (16 * p + 10 + 2 * k) ≡ get_or links (3 * p + k) 0
  unfolding linked_record
  link_put p k h below is fit =
      let r = take 16 (drop (16 * p) bytes) in
      let whole : length r ≡ 16 = length-take-le 16 (drop (16 * p) bytes) (omega (arith, length-drop (16 * p) bytes)) in
      let front : length (take 10 r) ≡ 10 = length-take-le 10 r (omega arith) in
      let own : linked_record links bytes p ≡ take 10 r ++ link_bytes links p = rw is in
      let at : 16 * p + 10 + 2 * k ≡ 16 * p + (10 + 2 * k) = omega arith in
      ap (le_at 2 (links_put n links bytes)) at
      ∙ two_put p (10 + 2 * k) h (omega arith)
      ∙ ap (λ (l : List ℕ). le_at 2 l (10 + 2 * k)) own
      ∙ le_after 2 (take 10 r) (link_bytes links p) 10 (2 * k) front
      ∙ link_bytes_at links p k below fit

-- ---- what it is

-- A link is a polygon's number or −1: two bytes hold it.
link_fits : (n : ℕ) (bytes : List ℕ) → n ≤ 32767 → (s : ℕ) → s < 3 * n → link_of (corners_of n bytes) s < 65536
link_fits n bytes few s h =
    let c = corners_hold n bytes few in
    by_edge (corners_of n bytes) c s (omega (arith, length_corners n bytes)) (λ x. x < 65536) (λ alone. omega arith)
    (λ t next. omega (arith, next.on.other.within, c.few)) (λ f first b. omega (arith, c.few))

module _ (n : ℕ) (bytes : List ℕ) (few : n ≤ 32767) (room : 16 * n ≤ length bytes) (p k : ℕ) (within : p < n) (slot : k < 3)
    (is : is_triangle bytes p ≡ true) where
  pub record_link : le_at 2 (linked n bytes) (16 * p + 10 + 2 * k) ≡ link_of (corners_of n bytes) (3 * p + k)
  unfolding linked
  record_link =
      let cs = corners_of n bytes in
      let same : get_or (links_of cs) (3 * p + k) 0 ≡ link_of cs (3 * p + k) = link_at cs (3 * p + k) (omega (arith, length_corners n bytes)) in
      link_put n (links_of cs) bytes room p k within slot is (omega (arith, link_fits n bytes few (3 * p + k) (omega arith))) ∙ same

  -- The link in slot k of triangle p, in the records once they are linked, is what 01 says of that side.
  pub record_link_by_meaning : LinkMeaning (corners_of n bytes) (3 * p + k) (le_at 2 (linked n bytes) (16 * p + 10 + 2 * k))
  record_link_by_meaning =
      subst (LinkMeaning (corners_of n bytes) (3 * p + k)) (sym record_link)
      (link_by_meaning (corners_of n bytes) (corners_hold n bytes few) (3 * p + k) (omega (arith, length_corners n bytes)))
