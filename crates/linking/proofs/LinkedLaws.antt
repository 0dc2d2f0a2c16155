-- Links that are stored in records at the start of a longer list are those of the records alone. Assumes nothing.
use Prim.Native.Nat.{ℕ, ◌+◌, ◌*◌, ◌<◌}
use native.Mathlib.Omega.{arith}
use mathlib.Core.List.{List, [], ◌++◌, append-nil}
use mathlib.Core.Path.{◌≡◌, sym, ap, ◌∙◌}
use lib.ListN.{length, get_or, take, drop, length-append, length-drop, drop_of_length-le, get_or-append}
use lib.Seq.{take-append-le, drop-append-le, drop_at}
use Rattle.base.specs.LittleEndian.{le_at}
use Rattle.base.specs.Lists.{over}
use Rattle.corners.specs.Corners.{corners_at, corners_of, linked_record, linked_records, links_put}
use Rattle.corners.proofs.CornerLaws.{length_linked}
use Rattle.corners.proofs.LinkLaws.{in_turn_same}
use Rattle.edges.specs.Edges.{linked}
use Rattle.sides.specs.Links.{links_of}

module _ (n : ℕ) (records rest : List ℕ) (long : length records ≡ 16 * n) where
  byte : (i : ℕ) → i < 16 * n → get_or (records ++ rest) i 0 ≡ get_or records i 0
  byte i h = get_or-append records rest 0 i (omega arith)

  two : (i : ℕ) → i + 1 < 16 * n → le_at 2 (records ++ rest) i ≡ le_at 2 records i
  unfolding le_at
  two i h = let low = byte i (omega arith) in let high = byte (i + 1) h in rw (low, high)

  corners_there : (k : ℕ) → k < n → corners_at (records ++ rest) k ≡ corners_at records k
  unfolding corners_at
  corners_there k h =
      let kind = byte (16 * k) (omega arith) in
      let first = two (16 * k + 4 + 2 * 0) (omega arith) in
      let second = two (16 * k + 4 + 2 * 1) (omega arith) in
      let third = two (16 * k + 4 + 2 * 2) (omega arith) in
      rw (kind, first, second, third)

  pub corners_same : corners_of n (records ++ rest) ≡ corners_of n records
  corners_same = in_turn_same (corners_at (records ++ rest)) (corners_at records) n corners_there

  sixteen : (k : ℕ) → k < n → take 16 (drop (16 * k) (records ++ rest)) ≡ take 16 (drop (16 * k) records)
  sixteen k h =
      ap (take 16) (drop-append-le (16 * k) records rest (omega arith))
      ∙ take-append-le 16 (drop (16 * k) records) rest (omega (arith, length-drop (16 * k) records))

  record_same : (links : List ℕ) (k : ℕ) → k < n → linked_record links (records ++ rest) k ≡ linked_record links records k
  unfolding linked_record
  record_same links k h =
      let kind = byte (16 * k) (omega arith) in
      let own = sixteen k h in
      rw (kind, own)

  records_same : (links : List ℕ) → linked_records n links (records ++ rest) ≡ linked_records n links records
  records_same links = in_turn_same (linked_record links (records ++ rest)) (linked_record links records) n (record_same links)

  put_same : (links : List ℕ) → links_put n links (records ++ rest) ≡ links_put n links records ++ rest
  unfolding links_put
  put_same links =
      let ls = linked_records n links records in
      let many : length ls ≡ 16 * n = length_linked n links records (omega arith) in
      let none : drop (length ls) records ≡ [] = drop_of_length-le records {i = length ls} (omega arith) in
      ap (λ (l : List ℕ). l ++ drop (length l) (records ++ rest)) (records_same links)
      ∙ ap (λ (l : List ℕ). ls ++ l) (drop_at records rest (length ls) (omega arith))
      ∙ ap (λ (l : List ℕ). l ++ rest) (sym (ap (λ (l : List ℕ). ls ++ l) none ∙ append-nil ls))

  pub linked_same : linked n (records ++ rest) ≡ linked n records ++ rest
  unfolding linked
  linked_same = ap (λ (cs : List ℕ). links_put n (links_of cs) (records ++ rest)) corners_same ∙ put_same (links_of (corners_of n records))

pub length_linked_records : (n : ℕ) (records : List ℕ) → length records ≡ 16 * n → length (linked n records) ≡ 16 * n
unfolding linked links_put
length_linked_records n records long =
    let ls = linked_records n (links_of (corners_of n records)) records in
    let many : length ls ≡ 16 * n = length_linked n (links_of (corners_of n records)) records (omega arith) in
    omega (arith, length-append ls (drop (length ls) records), length-drop (length ls) records)

-- Records that are written over a list, and then linked there.
pub linked_over : (n : ℕ) (records before : List ℕ) → length records ≡ 16 * n → linked n (over records before) ≡ over (linked n records) before
linked_over n records before long =
    linked_same n records (drop (length records) before) long
    ∙ ap (λ (k : ℕ). linked n records ++ drop k before) (long ∙ sym (length_linked_records n records long))
