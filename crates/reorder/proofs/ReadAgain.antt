-- What is read from the reordered records: at each position the old polygon of the order's place, with its links renumbered. A polygon that was read is
-- written and read again as it is, by the kinds.
use Prim.Native.Nat.{ℕ, zero, suc, ◌+◌, ◌*◌, ◌/◌, ◌%◌, ◌<◌}
use native.Mathlib.Omega.{arith}
use mathlib.Core.List.{List, ◌++◌}
use mathlib.Core.Path.{◌≡◌, refl, sym, ap, ◌∙◌}
use lib.Ieee.{binary32, of_bits}
use lib.Ieee.Bits.{of_bits-fits}
use lib.IntN.{ℤ}
use lib.ListN.{length, get_or, take, drop, length-drop}
use lib.Seq.{ext_get_or, get_or-take, get_or-drop, length-take-le}
use mir.Syntax.{w16}
use mir.Val.{SFits}
use Rattle.base.specs.Lists.{Permutes, up_from}
use Rattle.corners.proofs.CornerLaws.{in_parts, length_in_turn, part_in_turn}
use Rattle.corners.specs.Corners.{in_turn}
use Rattle.float32.proofs.Wrap.{signed_fits}
use Rattle.float32.specs.Casts.{low16bits, signed16}
use Rattle.materials.specs.Materials.{place_in}
use Rattle.polygon.proofs.KindLaws.{triangle_by_kind, sphere_by_kind, capsule_by_kind, box_by_kind, cylinder_by_kind}
use Rattle.polygon.proofs.ReadBack.{word_back, polygon_back, bytes_fit}
use Rattle.polygon.proofs.Sizes.{polygon_bytes_lem}
use Rattle.polygon.specs.Canonical.{canonical, PolygonFits, HalvesFit}
use Rattle.polygon.specs.Halves.{halves_at}
use Rattle.polygon.specs.Polygons.{word_or, joined, triangle_of, sphere_of, capsule_of, box_of, cylinder_of, polygon_of, polygon_at, polygon_bytes}
use Rattle.polygon.specs.declared.Polygon.{Polygon}
use Rattle.polygon.specs.declared.Polygon.TheVariants.{Triangle, Sphere, Capsule, Box, Cylinder}
use Rattle.polygon.specs.declared.halves.Halves.{Halves}
use Rattle.reorder.proofs.LookupLaws.{new_below, old_of_new}
use Rattle.reorder.specs.Reordering.{lookup_of, renumbered, new_link, relinked, moved_to, reordered_of, rebuilt_records, rebuilt_of}

-- ---- a polygon that was read

-- Its fields hold what their types can, and no bit of it is lost where it is written.
pub record Settled (q : Polygon) : Type 0 where
  pub fits : PolygonFits q
  pub same : canonical q ≡ q

module _ (h : Halves) (f : HalvesFit h) where
  area_word : word_or (of_bits binary32 (joined (h.at0 / 8 * 8) h.at2)) (joined (h.at0 / 8 * 8) h.at2) / 8 * 8 ≡ joined (h.at0 / 8 * 8) h.at2
  area_word =
      ap (λ (w : ℕ). w / 8 * 8) (word_back (joined (h.at0 / 8 * 8) h.at2) (omega (arith, f.at0, f.at2))) ∙ omega arith

  radius_word : word_or (of_bits binary32 (joined h.at4 h.at6)) (joined h.at4 h.at6) ≡ joined h.at4 h.at6
  radius_word = word_back (joined h.at4 h.at6) (omega (arith, f.at4, f.at6))

  triangle_settled : Settled (triangle_of h)
  unfolding triangle_of
  triangle_settled =
      record {
        fits = (
          (of_bits-fits binary32 _, omega (arith, f.at0, f.at2)),
          f.at4,
          f.at6,
          f.at8,
          signed_fits h.at10,
          signed_fits h.at12,
          signed_fits h.at14,
        );
        same = λ i.
            Triangle (of_bits binary32 (area_word i)) (area_word i) h.at4 h.at6 h.at8 (signed16 h.at10) (signed16 h.at12) (signed16 h.at14);
      }

  sphere_settled : Settled (sphere_of h)
  unfolding sphere_of
  sphere_settled =
      record {
        fits = ((of_bits-fits binary32 _, omega (arith, f.at4, f.at6)), f.at2);
        same = λ i. Sphere h.at2 (of_bits binary32 (radius_word i)) (radius_word i);
      }

  capsule_settled : Settled (capsule_of h)
  unfolding capsule_of
  capsule_settled =
      record {
        fits = ((of_bits-fits binary32 _, omega (arith, f.at4, f.at6)), f.at2, f.at8);
        same = λ i. Capsule h.at2 h.at8 (of_bits binary32 (radius_word i)) (radius_word i);
      }

  box_settled : Settled (box_of h)
  unfolding box_of
  box_settled = record { fits = (signed_fits h.at4, signed_fits h.at6, signed_fits h.at8, signed_fits h.at10); same = refl }

  cylinder_settled : Settled (cylinder_of h)
  unfolding cylinder_of
  cylinder_settled =
      record {
        fits = ((of_bits-fits binary32 _, omega (arith, f.at4, f.at6)), f.at2, f.at8);
        same = λ i. Cylinder h.at2 h.at8 (of_bits binary32 (radius_word i)) (radius_word i);
      }

  read_settled : Settled (polygon_of h)
  read_settled = by (h.at0 % 8) refl
    where
      by : (kind : ℕ) → h.at0 % 8 ≡ kind → Settled (polygon_of h)
      by zero e = rw (triangle_by_kind h e) triangle_settled
      by (suc zero) e = rw (sphere_by_kind h e) sphere_settled
      by (suc (suc zero)) e = rw (capsule_by_kind h e) capsule_settled
      by (suc (suc (suc zero))) e = rw (box_by_kind h e) box_settled
      by (suc (suc (suc (suc n)))) e =
          rw (cylinder_by_kind h (λ q. omega arith) (λ q. omega arith) (λ q. omega arith) (λ q. omega arith)) cylinder_settled

-- ---- with its links renumbered

new_link_fits : (lookup : List ℕ) (e : ℤ) → SFits w16 (new_link lookup e)
unfolding new_link
new_link_fits lookup e = signed_fits (renumbered lookup (low16bits e))

relinked_fits : (lookup : List ℕ) (q : Polygon) → PolygonFits q → PolygonFits (relinked lookup q)
relinked_fits lookup (Triangle area nan v1 v2 v3 e1 e2 e3) f =
    (f.0, f.1, f.2, f.3, new_link_fits lookup e1, new_link_fits lookup e2, new_link_fits lookup e3)
relinked_fits lookup (Sphere index radius nan) f = f
relinked_fits lookup (Capsule i1 i2 radius nan) f = f
relinked_fits lookup (Box i1 i2 i3 i4) f = f
relinked_fits lookup (Cylinder i1 i2 radius nan) f = f

canonical_relinked : (lookup : List ℕ) (q : Polygon) → canonical (relinked lookup q) ≡ relinked lookup (canonical q)
canonical_relinked lookup (Triangle area nan v1 v2 v3 e1 e2 e3) = refl
canonical_relinked lookup (Sphere index radius nan) = refl
canonical_relinked lookup (Capsule i1 i2 radius nan) = refl
canonical_relinked lookup (Box i1 i2 i3 i4) = refl
canonical_relinked lookup (Cylinder i1 i2 radius nan) = refl

relinked_settled : (lookup : List ℕ) (q : Polygon) → Settled q → Settled (relinked lookup q)
relinked_settled lookup q s =
    record { fits = relinked_fits lookup q s.fits; same = canonical_relinked lookup q ∙ ap (relinked lookup) s.same }

-- ---- records one after the other

module _ (n : ℕ) (f : ℕ → List ℕ) (each : (k : ℕ) → k < n → length (f k) ≡ 16) where
  pub record_in_turn : (k : ℕ) → k < n → take 16 (drop (16 * k) (in_turn n f)) ≡ f k
  record_in_turn k h =
      let size : length (take 16 (drop (16 * k) (in_turn n f))) ≡ 16 =
      length-take-le 16 (drop (16 * k) (in_turn n f)) (omega (arith, length-drop (16 * k) (in_turn n f), length_in_turn 16 f n each)) in
      ext_get_or 0 (take 16 (drop (16 * k) (in_turn n f))) (f k) (size ∙ sym (each k h)) (λ j b. at j (omega arith))
    where
      at : (j : ℕ) → j < 16 → get_or (take 16 (drop (16 * k) (in_turn n f))) j 0 ≡ get_or (f k) j 0
      at j b = get_or-take 16 (drop (16 * k) (in_turn n f)) j 0 b ∙ get_or-drop (16 * k) (in_turn n f) j 0 ∙ part_in_turn 16 f n each k j h b

-- A polygon among those that were written is read as it was.
written_read : (n : ℕ) (p : ℕ → Polygon) (k : ℕ) → k < n → Settled (p k) → polygon_at (in_turn n (λ j. polygon_bytes (p j))) (16 * k) ≡ p k
written_read n p k h s =
    let l = in_turn n (λ j. polygon_bytes (p j)) in
    let each : (j : ℕ) → j < n → length (polygon_bytes (p j)) ≡ 16 = λ j b. (polygon_bytes_lem (p j)).size in
    let parts : l ≡ take (16 * k) l ++ (polygon_bytes (p k) ++ drop (16 * k + 16) l) =
    in_parts l (16 * k) 16 ∙ ap (λ (r : List ℕ). take (16 * k) l ++ (r ++ drop (16 * k + 16) l)) (record_in_turn n (λ j. polygon_bytes (p j)) each k h) in
    let front : length (take (16 * k) l) ≡ 16 * k =
    length-take-le (16 * k) l (omega (arith, length_in_turn 16 (λ j. polygon_bytes (p j)) n each)) in
    ap (λ (b : List ℕ). polygon_at b (16 * k)) parts ∙ polygon_back (take (16 * k) l) (drop (16 * k + 16) l) (16 * k) (p k) front s.fits ∙ s.same

-- ---- the laws

module _ (n : ℕ) (order bytes : List ℕ) (each : (i : ℕ) → get_or bytes i 0 < 256) where
  moved_settled : (k : ℕ) → Settled (moved_to order bytes k)
  unfolding polygon_at
  moved_settled k = read_settled (halves_at bytes (16 * get_or order k 0)) (bytes_fit bytes each (16 * get_or order k 0))

  -- The polygon at a position is the old one at the order's place.
  pub reordered_polygon : (k : ℕ) → k < n → polygon_at (reordered_of n order bytes) (16 * k) ≡ polygon_at bytes (16 * get_or order k 0)
  reordered_polygon k h = written_read n (moved_to order bytes) k h (moved_settled k)

  -- With its links renumbered, and nothing else changed.
  pub rebuilt_polygon : (lookup : List ℕ) (k : ℕ) → k < n
      → polygon_at (rebuilt_records n order lookup bytes) (16 * k) ≡ relinked lookup (polygon_at bytes (16 * get_or order k 0))
  rebuilt_polygon lookup k h =
      written_read n (λ j. relinked lookup (moved_to order bytes j)) k h (relinked_settled lookup (moved_to order bytes k) (moved_settled k))

  -- Each old polygon stands at the position that the lookup has for its place.
  pub old_polygon : length order ≡ n → Permutes order (up_from 0 n) → (old : ℕ) → old < n
      → polygon_at (rebuilt_of n order bytes) (16 * place_in order old) ≡ relinked (lookup_of n order) (polygon_at bytes (16 * old))
  old_polygon long once old h =
      rebuilt_polygon (lookup_of n order) (place_in order old) (new_below n order long once old h)
      ∙ ap (λ (q : ℕ). relinked (lookup_of n order) (polygon_at bytes (16 * q))) (old_of_new n order long once old h)
