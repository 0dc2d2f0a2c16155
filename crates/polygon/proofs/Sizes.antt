-- How many bytes a record has, each below 256, part by part. Assumes nothing.
use Prim.Native.Nat.{ℕ}
use Rattle.base.proofs.LittleEndian.{Bytes, joined, number_bytes}
use Rattle.polygon.specs.Halves.{four_bytes, halves_bytes}
use Rattle.polygon.specs.Polygons.{halves_of, polygon_bytes}
use Rattle.polygon.specs.declared.halves.Halves.{Halves}
use Rattle.polygon.specs.declared.Polygon.{Polygon}

pub four_bytes_lem : (a b c d : ℕ) → Bytes 8 (four_bytes a b c d)
unfolding four_bytes
four_bytes_lem a b c d = joined (joined (joined (number_bytes 2 a) (number_bytes 2 b)) (number_bytes 2 c)) (number_bytes 2 d)

pub halves_bytes_lem : (h : Halves) → Bytes 16 (halves_bytes h)
unfolding halves_bytes
halves_bytes_lem h = joined (four_bytes_lem h.at0 h.at2 h.at4 h.at6) (four_bytes_lem h.at8 h.at10 h.at12 h.at14)

-- A polygon's record is 16 bytes.
pub polygon_bytes_lem : (p : Polygon) → Bytes 16 (polygon_bytes p)
unfolding polygon_bytes
polygon_bytes_lem p = halves_bytes_lem (halves_of p)
