-- Records that are read and written again have the corners that they had: of a triangle its three vertices, of another kind none. By the kinds.
use Prim.Native.Nat.{ℕ, ◌+◌, ◌*◌, ◌/◌, ◌%◌, ◌≤◌, ◌<◌}
use native.Mathlib.Nat.{add-zero}
use native.Mathlib.Numerals.{add-one}
use native.Mathlib.Omega.{arith}
use mathlib.Core.Bool.{Bool, true, false, cond}
use mathlib.Core.List.{List, [], ◌∷◌}
use mathlib.Core.Path.{◌≡◌, refl, sym, ap, ◌∙◌}
use borrow.Author.Tests.{eqb-true, eqb-false, eq-eqb, ne_eqb}
use lib.Dec.{eqb}
use lib.ListN.{length, get_or}
use lib.Seq.{sets}
use Rattle.base.specs.LittleEndian.{little_endian, le_at}
use Rattle.base.specs.Lists.{over}
use Rattle.base.proofs.StoreLaws.{over_next}
use Rattle.corners.specs.Corners.{none, in_turn, corner_of, corners_at, corners_of}
use Rattle.corners.proofs.CornerLaws.{length_in_turn, part_in_turn}
use Rattle.corners.proofs.LinkLaws.{in_turn_same}
use Rattle.polygon.specs.Halves.{four_bytes, halves_bytes, halves_at}
use Rattle.polygon.specs.Polygons.{polygon_bytes, polygon_at, polygon_of, triangle_of, sphere_of, capsule_of, box_of, cylinder_of}
use Rattle.polygon.specs.Polygons.{triangle_halves, round_halves, box_halves, kind_at}
use Rattle.polygon.specs.declared.halves.Halves.{Halves}
use Rattle.polygon.proofs.KindLaws.{kind_read, triangle_by_kind}
use Rattle.polygon.proofs.Sizes.{polygon_bytes_lem}
use Rattle.linking.specs.Written.{written_record, written_of}

-- ---- records one after the other

pub length_written_record : (bytes : List ℕ) (k : ℕ) → length (written_record bytes k) ≡ 16
length_written_record bytes k = (polygon_bytes_lem (polygon_at bytes (16 * k))).size

pub length_written : (n : ℕ) (bytes : List ℕ) → length (written_of n bytes) ≡ 16 * n
length_written n bytes = length_in_turn 16 (written_record bytes) n (λ k h. length_written_record bytes k)

-- Once i records are written over a list, one more.
pub written_next : (bytes before : List ℕ) (i : ℕ) → 16 * i + 16 ≤ length before
    → sets (over (written_of i bytes) before) (16 * i) (written_record bytes i) ≡ over (written_of (i + 1) bytes) before
written_next bytes before i h =
    over_next (written_of i bytes) (written_record bytes i) before (16 * i) (length_written i bytes) (omega (arith, length_written_record bytes i))
    ∙ sym (ap (λ (k : ℕ). over (written_of k bytes) before) (add-one i))

-- ---- the corners of a record among others

module _ (n : ℕ) (f : ℕ → List ℕ) (each : (k : ℕ) → k < n → length (f k) ≡ 16) (k : ℕ) (h : k < n) where
  byte : (j : ℕ) → j < 16 → get_or (in_turn n f) (16 * k + j) 0 ≡ get_or (f k) j 0
  byte j b = part_in_turn 16 f n each k j h b

  two : (j : ℕ) → j < 15 → le_at 2 (in_turn n f) (16 * k + j) ≡ le_at 2 (f k) j
  unfolding le_at
  two j b =
      let next : 16 * k + j + 1 ≡ 16 * k + (j + 1) = omega arith in
      let low = byte j (omega arith) in
      let high = byte (j + 1) (omega arith) in
      rw (next, low, high)

  corner_there : (slot : ℕ) → slot < 3 → corner_of (in_turn n f) k slot ≡ corner_of (f k) 0 slot
  corner_there slot b =
      let at : 16 * k + 4 + 2 * slot ≡ 16 * k + (4 + 2 * slot) = omega arith in
      let own : 4 + 2 * slot ≡ 16 * 0 + 4 + 2 * slot = omega arith in
      ap (λ (x : ℕ). x % 32768) (ap (le_at 2 (in_turn n f)) at ∙ two (4 + 2 * slot) (omega arith) ∙ ap (le_at 2 (f k)) own)

  kind_there : get_or (in_turn n f) (16 * k) 0 ≡ get_or (f k) (16 * 0) 0
  kind_there = ap (λ (i : ℕ). get_or (in_turn n f) i 0) (sym (add-zero (16 * k))) ∙ byte 0 (omega arith)

  corners_there : corners_at (in_turn n f) k ≡ corners_at (f k) 0
  unfolding corners_at
  corners_there =
      let first = corner_there 0 (omega arith) in
      let second = corner_there 1 (omega arith) in
      let third = corner_there 2 (omega arith) in
      rw (kind_there, first, second, third)

-- ---- the corners of a record that is written

-- a number's two bytes, read again
low_again : (a : ℕ) → (a % 256 + 256 * (a / 256 % 256 + 256 * 0)) % 32768 ≡ a % 32768
low_again a = omega arith

of_bytes : (a b c d u u' v v' w w' : ℕ) (rest : List ℕ) → a % 8 ≡ 0 → corners_at (a ∷ b ∷ c ∷ d ∷ u ∷ u' ∷ v ∷ v' ∷ w ∷ w' ∷ rest) 0
    ≡ (u + 256 * (u' + 256 * 0)) % 32768 ∷ (v + 256 * (v' + 256 * 0)) % 32768 ∷ (w + 256 * (w' + 256 * 0)) % 32768 ∷ []
unfolding corners_at le_at
of_bytes a b c d u u' v v' w w' rest e = rw (eq-eqb (a % 8) 0 e)

triangle_again : (h : Halves) → corners_at (polygon_bytes (triangle_of h)) 0 ≡ h.at4 % 32768 ∷ h.at6 % 32768 ∷ h.at8 % 32768 ∷ []
unfolding polygon_bytes triangle_of halves_bytes four_bytes little_endian triangle_halves
triangle_again h =
    of_bytes _ _ _ _ (h.at4 % 256) (h.at4 / 256 % 256) (h.at6 % 256) (h.at6 / 256 % 256) (h.at8 % 256) (h.at8 / 256 % 256) _ (omega arith)
    ∙ (λ i. low_again h.at4 i ∷ low_again h.at6 i ∷ low_again h.at8 i ∷ [])

others : (h : Halves) (b s c : Bool)
    → corners_at (polygon_bytes (cond b (box_of h) (cond s (sphere_of h) (cond c (capsule_of h) (cylinder_of h))))) 0 ≡ none ∷ none ∷ none ∷ []
unfolding corners_at polygon_bytes box_of sphere_of capsule_of cylinder_of halves_bytes four_bytes little_endian box_halves round_halves
others h true s c = refl
others h false true c = refl
others h false false true = refl
others h false false false = refl

other_again : (h : Halves) → (h.at0 % 8 ≡ 0 → ⊥) → corners_at (polygon_bytes (polygon_of h)) 0 ≡ none ∷ none ∷ none ∷ []
unfolding polygon_of
other_again h ne = rw (ne_eqb (h.at0 % 8) 0 ne) (others h (eqb (h.at0 % 8) 3) (eqb (h.at0 % 8) 1) (eqb (h.at0 % 8) 2))

triangle_read : (bytes : List ℕ) (k : ℕ) → kind_at bytes (16 * k) ≡ 0
    → (let h = halves_at bytes (16 * k) in h.at4 % 32768 ∷ h.at6 % 32768 ∷ h.at8 % 32768 ∷ []) ≡ corners_at bytes k
unfolding halves_at corners_at
triangle_read bytes k e =
    let zero-on : 16 * k + 4 ≡ 16 * k + 4 + 2 * 0 = omega arith in
    let one_on : 16 * k + 6 ≡ 16 * k + 4 + 2 * 1 = omega arith in
    let two-on : 16 * k + 8 ≡ 16 * k + 4 + 2 * 2 = omega arith in
    rw (eq-eqb (kind_at bytes (16 * k)) 0 e, ← zero-on, ← one_on, ← two-on)

other_read : (bytes : List ℕ) (k : ℕ) → (kind_at bytes (16 * k) ≡ 0 → ⊥) → corners_at bytes k ≡ none ∷ none ∷ none ∷ []
unfolding corners_at
other_read bytes k ne = rw (ne_eqb (kind_at bytes (16 * k)) 0 ne)

-- The corners of a record, read and written again.
record_again : (bytes : List ℕ) (k : ℕ) → corners_at (written_record bytes k) 0 ≡ corners_at bytes k
unfolding polygon_at
record_again bytes k = by (eqb (kind_at bytes (16 * k)) 0) refl
  where
    by : (t : Bool) → eqb (kind_at bytes (16 * k)) 0 ≡ t → corners_at (polygon_bytes (polygon_of (halves_at bytes (16 * k)))) 0 ≡ corners_at bytes k
    by true e =
        let none_of : kind_at bytes (16 * k) ≡ 0 = eqb-true (kind_at bytes (16 * k)) 0 e in
        let h = halves_at bytes (16 * k) in
        ap (λ q. corners_at (polygon_bytes q) 0) (triangle_by_kind h (kind_read bytes (16 * k) ∙ none_of))
        ∙ triangle_again h
        ∙ triangle_read bytes k none_of
    by false e =
        let some : kind_at bytes (16 * k) ≡ 0 → ⊥ = eqb-false (kind_at bytes (16 * k)) 0 e in
        other_again (halves_at bytes (16 * k)) (λ z. some (sym (kind_read bytes (16 * k)) ∙ z)) ∙ sym (other_read bytes k some)

-- Records that are written again have the corners that they had.
pub corners_written : (n : ℕ) (bytes : List ℕ) → corners_of n (written_of n bytes) ≡ corners_of n bytes
corners_written n bytes =
    in_turn_same (corners_at (written_of n bytes)) (corners_at bytes) n
    (λ k h. corners_there n (written_record bytes) (λ j b. length_written_record bytes j) k h ∙ record_again bytes k)
