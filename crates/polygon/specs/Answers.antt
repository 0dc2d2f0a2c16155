-- What reading and writing a polygon answer (01, What each operation turns down). Definitions only.
use Rattle.std.specs.Prelude.{ℕ, cond, List, ◌≡◌, ltb, length, ⊤, Result, Ok, Err}
use Rattle.base.specs.Lists.{over}
use Rattle.polygon.specs.Polygons.{polygon_bytes, polygon_at, kind_at}
use Rattle.polygon.specs.declared.Polygon.{Polygon}
use Rattle.polygon.specs.declared.PolygonsRefusal.{PolygonsRefusal}
use Rattle.polygon.specs.declared.PolygonsRefusal.TheVariants as Polygons
use Rattle.polygon.specs.declared.ReadRefusal.{ReadRefusal}
use Rattle.polygon.specs.declared.ReadRefusal.TheVariants.{ShortRecord, UnknownKind}
use Rattle.polygon.specs.declared.WriteRefusal.{WriteRefusal}
use Rattle.polygon.specs.declared.WriteRefusal.TheVariants.{BufferTooShort}

-- Rule G5 (01, Polygon read: 5 under 16 bytes; 6 kind 5, 6 or 7): the checks in this order.
unfoldable pub read_of : List ℕ → Result Polygon ReadRefusal
read_of bytes = cond (ltb (length bytes) 16) (Err ShortRecord) (cond (ltb 4 (kind_at bytes 0)) (Err UnknownKind) (Ok (polygon_at bytes 0)))

-- Rule G5: 01's number of each answer, 0 where it is not refused.
abbrev pub refusal_number : ReadRefusal → ℕ
refusal_number ShortRecord = 5
refusal_number UnknownKind = 6

abbrev pub read_number : Result Polygon ReadRefusal → ℕ
read_number (Ok p) = 0
read_number (Err r) = refusal_number r

abbrev pub write_number : Result ⊤ WriteRefusal → ℕ
write_number (Ok u) = 0
write_number (Err BufferTooShort) = 2

-- 01's number of what an operation on an array of records answers, 0 where it is not refused.
abbrev pub polygons_number : Result ⊤ PolygonsRefusal → ℕ
polygons_number (Ok u) = 0
polygons_number (Err Polygons.TooManyPolygons) = 1
polygons_number (Err Polygons.BufferTooShort) = 2
polygons_number (Err Polygons.UnknownKind) = 6

-- Rule G5 (01, Polygon write: 2 under 16 bytes).
abbrev pub write_of : List ℕ → Result ⊤ WriteRefusal
write_of out = cond (ltb (length out) 16) (Err BufferTooShort) (Ok tt)

-- Rule G5 (01: a refusal changes no output buffer): the bytes after it.
abbrev pub write_exit : Polygon → List ℕ → List ℕ
write_exit p out = cond (ltb (length out) 16) out (over (polygon_bytes p) out)

-- Rule G5: what `write` promises of its answer r and of every byte.
pub record Wrote (p : Polygon) (before after : List ℕ) (r : Result ⊤ WriteRefusal) : Type 0 where
  pub answer : r ≡ write_of before
  pub bytes : after ≡ write_exit p before
