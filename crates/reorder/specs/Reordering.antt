-- Polygons put into another order, and their links by their new numbers (01, Polygons: `rebuild_bvh`). Definitions only.
-- An order has, at each position, the place of a polygon in the old list.
use Rattle.std.specs.Prelude.{ℕ, ◌*◌, cond, List, map, ltb, ℤ, length, get_or}
use Rattle.base.specs.Lists.{up_from}
use Rattle.corners.specs.Corners.{none, in_turn}
use Rattle.float32.specs.Casts.{low16bits, signed16}
use Rattle.materials.specs.Materials.{place_in}
use Rattle.polygon.specs.declared.Polygon.{Polygon}
use Rattle.polygon.specs.declared.Polygon.TheVariants.{Triangle, Sphere, Capsule, Box, Cylinder}
use Rattle.polygon.specs.Polygons.{polygon_bytes, polygon_at}

-- Rule K2 (bounds.rs, rebuild_bvh: materials): what a list has at each place of the order.
abbrev pub in_order : List ℕ → List ℕ → List ℕ
in_order order xs = map (λ old. get_or xs old 0) order

-- Rule K3 (bounds.rs, rebuild_bvh: lookup, old index to new index): for each of n places the position at which the order has it.
abbrev pub lookup_of : ℕ → List ℕ → List ℕ
lookup_of n order = map (place_in order) (up_from 0 n)

-- Rule K3 (01: "links renumbered"; bounds.rs: 0xFFFF and anything past the polygons is no edge): the new number of a link.
unfoldable pub renumbered : List ℕ → ℕ → ℕ
renumbered lookup old = cond (ltb old (length lookup)) (get_or lookup old 0) none

unfoldable pub new_link : List ℕ → ℤ → ℤ
new_link lookup e = signed16 (renumbered lookup (low16bits e))

-- Rule K3: a polygon with its links renumbered; only a triangle has any.
abbrev pub relinked : List ℕ → Polygon → Polygon
relinked lookup (Triangle area nan v1 v2 v3 e1 e2 e3) = Triangle area nan v1 v2 v3 (new_link lookup e1) (new_link lookup e2) (new_link lookup e3)
relinked lookup (Sphere index radius nan) = Sphere index radius nan
relinked lookup (Capsule i1 i2 radius nan) = Capsule i1 i2 radius nan
relinked lookup (Box i1 i2 i3 i4) = Box i1 i2 i3 i4
relinked lookup (Cylinder i1 i2 radius nan) = Cylinder i1 i2 radius nan

-- Rule K2 (01: "polygons in leaf order"): the polygon that comes to position k.
abbrev pub moved_to : List ℕ → List ℕ → ℕ → Polygon
moved_to order bytes k = polygon_at bytes (16 * get_or order k 0)

-- Rule K2: the records in the order, as they are written.
abbrev pub reordered_record : List ℕ → List ℕ → ℕ → List ℕ
reordered_record order bytes k = polygon_bytes (moved_to order bytes k)

abbrev pub reordered_of : ℕ → List ℕ → List ℕ → List ℕ
reordered_of n order bytes = in_turn n (reordered_record order bytes)

-- Rules K2 and K3: the same with the links renumbered.
abbrev pub rebuilt_record : List ℕ → List ℕ → List ℕ → ℕ → List ℕ
rebuilt_record order lookup bytes k = polygon_bytes (relinked lookup (moved_to order bytes k))

abbrev pub rebuilt_records : ℕ → List ℕ → List ℕ → List ℕ → List ℕ
rebuilt_records n order lookup bytes = in_turn n (rebuilt_record order lookup bytes)

abbrev pub rebuilt_of : ℕ → List ℕ → List ℕ → List ℕ
rebuilt_of n order bytes = rebuilt_records n order (lookup_of n order) bytes
