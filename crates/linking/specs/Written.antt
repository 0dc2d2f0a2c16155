-- Polygon records, read and written again (bounds.rs, prepare: `to_bytes`). Definitions only.
use Rattle.std.specs.Prelude.{ℕ, ◌*◌, List}
use Rattle.corners.specs.Corners.{in_turn}
use Rattle.polygon.specs.Polygons.{polygon_bytes, polygon_at}

-- Rule G12: record k, read (rule G4) and written (rule G3): its unused bytes are zero.
abbrev pub written_record : List ℕ → ℕ → List ℕ
written_record bytes k = polygon_bytes (polygon_at bytes (16 * k))

-- Rule G12, of the first n records.
abbrev pub written_of : ℕ → List ℕ → List ℕ
written_of n bytes = in_turn n (written_record bytes)
