-- Polygons that differ in no more than their links have the same box, and the same record once links are stored in it. By the cases of a polygon.
use Rattle.std.specs.Prelude.{◌≡◌, ℕ, ◌*◌, ◌/◌, ◌%◌, cond, eqb, List, ◌++◌, take, ℤ, pos}
use native.Mathlib.Omega.{arith}
use mathlib.Core.Path.{refl, sym, ap, ◌∙◌}
use lib.Ieee.{Float, binary32, of_bits}
use Rattle.base.specs.LittleEndian.{little_endian}
use Rattle.corners.specs.Corners.{link_bytes}
use Rattle.polygon.proofs.KindLaws.{triangle_by_kind}
use Rattle.polygon.specs.Halves.{four_bytes, halves_bytes}
use Rattle.polygon.specs.Polygons.{joined, triangle_halves, triangle_of, polygon_of, polygon_bytes, kind_at}
use Rattle.polygon.specs.declared.Polygon.{Polygon}
use Rattle.polygon.specs.declared.Polygon.TheVariants.{Triangle, Sphere, Capsule, Box, Cylinder}
use Rattle.polygon.specs.declared.halves.Halves.{Halves}
use Rattle.polygon_boxes.specs.Boxes.{bbox_of}
use Rattle.reorder.specs.Reordering.{relinked}

-- a polygon but for its links
abbrev pub unlinked : Polygon → Polygon
unlinked (Triangle area nan v1 v2 v3 e1 e2 e3) = Triangle area nan v1 v2 v3 (pos 0) (pos 0) (pos 0)
unlinked (Sphere index radius nan) = Sphere index radius nan
unlinked (Capsule i1 i2 radius nan) = Capsule i1 i2 radius nan
unlinked (Box i1 i2 i3 i4) = Box i1 i2 i3 i4
unlinked (Cylinder i1 i2 radius nan) = Cylinder i1 i2 radius nan

-- Renumbering touches no more than the links.
pub relinked_alike : (lookup : List ℕ) (q : Polygon) → unlinked (relinked lookup q) ≡ unlinked q
relinked_alike lookup (Triangle area nan v1 v2 v3 e1 e2 e3) = refl
relinked_alike lookup (Sphere index radius nan) = refl
relinked_alike lookup (Capsule i1 i2 radius nan) = refl
relinked_alike lookup (Box i1 i2 i3 i4) = refl
relinked_alike lookup (Cylinder i1 i2 radius nan) = refl

pub box_alike : (ws : List ℕ) (q : Polygon) → bbox_of (unlinked q) ws ≡ bbox_of q ws
box_alike ws (Triangle area nan v1 v2 v3 e1 e2 e3) = refl
box_alike ws (Sphere index radius nan) = refl
box_alike ws (Capsule i1 i2 radius nan) = refl
box_alike ws (Box i1 i2 i3 i4) = refl
box_alike ws (Cylinder i1 i2 radius nan) = refl

-- ---- records

-- a record of polygon p with these links, if it is a triangle's
abbrev pub record_linked : List ℕ → ℕ → List ℕ → List ℕ
record_linked links p r = cond (eqb (kind_at r 0) 0) (take 10 r ++ link_bytes links p) r

module _ (links : List ℕ) (p : ℕ) (area : Float) (nan v1 v2 v3 : ℕ) where
  triangle_kind : (e1 e2 e3 : ℤ) → kind_at (polygon_bytes (Triangle area nan v1 v2 v3 e1 e2 e3)) 0 ≡ 0
  unfolding polygon_bytes halves_bytes four_bytes little_endian triangle_halves
  triangle_kind e1 e2 e3 = omega arith

  triangle_front : (e1 e2 e3 : ℤ)
      → take 10 (polygon_bytes (Triangle area nan v1 v2 v3 e1 e2 e3)) ≡ take 10 (polygon_bytes (Triangle area nan v1 v2 v3 (pos 0) (pos 0) (pos 0)))
  unfolding polygon_bytes halves_bytes four_bytes little_endian triangle_halves
  triangle_front e1 e2 e3 = refl

  triangle_record : (e1 e2 e3 : ℤ) → record_linked links p (polygon_bytes (Triangle area nan v1 v2 v3 e1 e2 e3))
      ≡ take 10 (polygon_bytes (Triangle area nan v1 v2 v3 e1 e2 e3)) ++ link_bytes links p
  triangle_record e1 e2 e3 = rw (triangle_kind e1 e2 e3)

pub record_alike : (links : List ℕ) (p : ℕ) (q : Polygon) → record_linked links p (polygon_bytes q) ≡ record_linked links p (polygon_bytes (unlinked q))
record_alike links p (Triangle area nan v1 v2 v3 e1 e2 e3) =
    triangle_record links p area nan v1 v2 v3 e1 e2 e3
    ∙ ap (λ (l : List ℕ). l ++ link_bytes links p) (triangle_front links p area nan v1 v2 v3 e1 e2 e3)
    ∙ sym (triangle_record links p area nan v1 v2 v3 (pos 0) (pos 0) (pos 0))
record_alike links p (Sphere index radius nan) = refl
record_alike links p (Capsule i1 i2 radius nan) = refl
record_alike links p (Box i1 i2 i3 i4) = refl
record_alike links p (Cylinder i1 i2 radius nan) = refl

-- ---- halves

-- Of a triangle's record the last three numbers are links.
pub triangles_alike : (h g : Halves) → h.at0 ≡ g.at0 → h.at2 ≡ g.at2 → h.at4 ≡ g.at4 → h.at6 ≡ g.at6 → h.at8 ≡ g.at8 → h.at0 % 8 ≡ 0
    → unlinked (polygon_of h) ≡ unlinked (polygon_of g)
unfolding triangle_of
triangles_alike h g e0 e2 e4 e6 e8 k =
    let area : joined (h.at0 / 8 * 8) h.at2 ≡ joined (g.at0 / 8 * 8) g.at2 = λ i. joined (e0 i / 8 * 8) (e2 i) in
    let same : unlinked (triangle_of h) ≡ unlinked (triangle_of g) =
    λ i. Triangle (of_bits binary32 (area i)) (area i) (e4 i) (e6 i) (e8 i) (pos 0) (pos 0) (pos 0) in
    ap unlinked (triangle_by_kind h k) ∙ same ∙ sym (ap unlinked (triangle_by_kind g (ap (λ (x : ℕ). x % 8) (sym e0) ∙ k)))
