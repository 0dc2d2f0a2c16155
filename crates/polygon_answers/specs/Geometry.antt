-- What the C interface answers of polygons, their links and their materials. Definitions only.
use Rattle.std.specs.Prelude.{ℕ, ◌*◌, cond, List, ◌≡◌, Result, Ok, Err, eqb, ltb, ℤ}
use Rattle.std.specs.Float.{binary32}
use Rattle.std.specs.Float.Ieee.{of_bits}
use Rattle.edges.specs.declared.entry.Lengths.{Lengths}
use Rattle.edges.specs.Edges.{answer_of, kept, linked}
use Rattle.float32.specs.Casts.{low16bits, signed16}
use Rattle.materials.specs.declared.building.Lengths as L
use Rattle.materials.specs.declared.building.MaterialsRefusal.{MaterialsRefusal}
use Rattle.materials.specs.Answers as M
use Rattle.materials.specs.Materials.{list_of, indices_of, materials_bytes}
use Rattle.polygon.specs.Answers.{read_number, write_number, write_of, write_exit, polygons_number}
use Rattle.polygon_boxes.specs.Boxes.{bbox_of}
use Rattle.polygon_items.specs.Items as I
use Rattle.polygon.specs.Polygons.{word_or}
use Rattle.polygon.specs.declared.Polygon.{Polygon}
use Rattle.polygon.specs.declared.Polygon.TheVariants.{Triangle, Sphere, Capsule, Box, Cylinder}
use Rattle.polygon.specs.declared.ReadRefusal.{ReadRefusal}
use Rattle.polygon_boxes.specs.declared.PolygonBox.{PolygonBox}
use Rattle.math.specs.declared.words3.Words3.{Words3}
use Rattle.polygon_answers.specs.declared.BoxAnswer.{BoxAnswer}
use Rattle.polygon_answers.specs.declared.MaterialsAnswer.{MaterialsAnswer}
use Rattle.polygon_answers.specs.declared.PolygonC.{PolygonC}
use Rattle.polygon_answers.specs.declared.ReadAnswer.{ReadAnswer}

-- ---- a polygon as a struct

unfoldable pub triangle_struct : ℕ → ℕ → ℕ → ℕ → ℤ → ℤ → ℤ → PolygonC
triangle_struct area v1 v2 v3 e1 e2 e3 =
    record { kind = 0; word = area; h0 = v1; h1 = v2; h2 = v3; h3 = low16bits e1; h4 = low16bits e2; h5 = low16bits e3 }

unfoldable pub round_struct : ℕ → ℕ → ℕ → ℕ → PolygonC
round_struct kind radius i1 i2 = record { kind = kind; word = radius; h0 = i1; h1 = i2; h2 = 0; h3 = 0; h4 = 0; h5 = 0 }

unfoldable pub box_struct : ℤ → ℤ → ℤ → ℤ → PolygonC
box_struct i1 i2 i3 i4 =
    record { kind = 3; word = 0; h0 = low16bits i1; h1 = low16bits i2; h2 = low16bits i3; h3 = low16bits i4; h4 = 0; h5 = 0 }

-- Rule G3 (bounds.rs, kind_byte): the kinds 0 to 4; a float's word as rule G2 has it.
abbrev pub struct_of : Polygon → PolygonC
struct_of (Triangle area nan v1 v2 v3 e1 e2 e3) = triangle_struct (word_or area nan) v1 v2 v3 e1 e2 e3
struct_of (Sphere index radius nan) = round_struct 1 (word_or radius nan) index 0
struct_of (Capsule i1 i2 radius nan) = round_struct 2 (word_or radius nan) i1 i2
struct_of (Box i1 i2 i3 i4) = box_struct i1 i2 i3 i4
struct_of (Cylinder i1 i2 radius nan) = round_struct 4 (word_or radius nan) i1 i2

-- ---- the polygon of a struct

unfoldable pub triangle_in : PolygonC → Polygon
triangle_in c =
    Triangle (of_bits binary32 c.word) c.word c.h0 c.h1 c.h2 (signed16 c.h3) (signed16 c.h4) (signed16 c.h5)

unfoldable pub sphere_in : PolygonC → Polygon
sphere_in c = Sphere c.h0 (of_bits binary32 c.word) c.word

unfoldable pub capsule_in : PolygonC → Polygon
capsule_in c = Capsule c.h0 c.h1 (of_bits binary32 c.word) c.word

unfoldable pub box_in : PolygonC → Polygon
box_in c = Box (signed16 c.h0) (signed16 c.h1) (signed16 c.h2) (signed16 c.h3)

unfoldable pub cylinder_in : PolygonC → Polygon
cylinder_in c = Cylinder c.h0 c.h1 (of_bits binary32 c.word) c.word

-- Rule G4: by the kind; 4 is the last, and those above are refused before.
unfoldable pub polygon_in : PolygonC → Polygon
polygon_in c =
    cond (eqb c.kind 0) (triangle_in c)
    (cond (eqb c.kind 3) (box_in c)
    (cond (eqb c.kind 1) (sphere_in c)
    (cond (eqb c.kind 2) (capsule_in c) (cylinder_in c))))

-- ---- answers

-- a refusal by its number, and no polygon
unfoldable pub unread : ℕ → ReadAnswer
unread n = record { refusal = n; polygon = round_struct 0 0 0 0 }

-- Rule G5 (01, Polygon read): the number and the polygon of each answer.
abbrev pub read_answer : Result Polygon ReadRefusal → ReadAnswer
read_answer (Ok p) = record { refusal = 0; polygon = struct_of p }
read_answer (Err r) = unread (read_number (Err r))

-- Rule G5 (01, Polygon write: 2 under 16 bytes), and before it 6: a kind that no polygon has.
pub record WroteStruct (c : PolygonC) (before after : List ℕ) (r : ℕ) : Type 0 where
  pub number : r ≡ cond (ltb 4 c.kind) 6 (write_number (write_of before))
  pub bytes : after ≡ cond (ltb 4 c.kind) before (write_exit (polygon_in c) before)

abbrev pub no_words : Words3
no_words = record { x = 0; y = 0; z = 0 }

-- a refusal by its number, and no box
unfoldable pub unboxed : ℕ → BoxAnswer
unboxed n = record { refusal = n; min = no_words; max = no_words }

unfoldable pub boxed : PolygonBox → BoxAnswer
boxed b = record { refusal = 0; min = b.min; max = b.max }

-- Rule G9: the box of a polygon over its vertices; 6: a kind that no polygon has.
abbrev pub box_answer : PolygonC → List ℕ → BoxAnswer
box_answer c vertices = cond (ltb 4 c.kind) (unboxed 6) (boxed (bbox_of (polygon_in c) vertices))

-- Rule G11: the number of the answer, and every word of the entries.
pub record ItemsAnswered (n : ℕ) (bytes vertices before after : List ℕ) (r : ℕ) : Type 0 where
  pub number : r ≡ polygons_number (I.answer_of n bytes before)
  pub words : after ≡ I.kept (I.answer_of n bytes before) (I.items_of n bytes vertices) before

-- 01, edges: the words of the five parts that n polygons are linked in.
abbrev pub edges_work_len : ℕ → ℕ
edges_work_len n = 15 * n

-- Rule E3 (01, edges): the number of the answer, and every byte of the records.
pub record EdgesAnswered (n : ℕ) (l : Lengths) (before after : List ℕ) (r : ℕ) : Type 0 where
  pub number : r ≡ polygons_number (answer_of n l before)
  pub bytes : after ≡ kept (answer_of n l before) (linked n before) before

unfoldable pub materials_with : ℕ → ℕ → MaterialsAnswer
materials_with n count = record { refusal = n; count = count }

-- Rule M3 (01, materials): the number and the count of each answer.
abbrev pub materials_answer : Result ℕ MaterialsRefusal → MaterialsAnswer
materials_answer (Ok count) = materials_with 0 count
materials_answer (Err why) = materials_with (M.refusal_number why) 0

-- Rule M3 (01, materials): the answer r, and every byte of the list and of the indices. ms are the polygons' materials.
pub record MaterialsAnswered (n m : ℕ) (l : L.Lengths) (ms list₀ list indices₀ indices : List ℕ) (r : MaterialsAnswer) : Type 0 where
  pub answer : r ≡ materials_answer (M.answer_of n m l ms)
  pub listed : list ≡ M.kept (M.answer_of n m l ms) (materials_bytes (list_of ms)) list₀
  pub indexed : indices ≡ M.kept (M.answer_of n m l ms) (indices_of ms) indices₀
