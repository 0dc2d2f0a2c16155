-- The input of the program `prepare`: a mesh as bytes. Definitions only.
use Rattle.std.specs.Prelude.{ℕ, zero, suc, ◌+◌, ◌*◌, ◌≤◌, cond, List, [], ◌∷◌, ◌++◌, ◌≡◌, ltb, eqb, Float, length, Result, Ok, Err, ⊤}
use Rattle.std.specs.Float.{binary32}
use Rattle.std.specs.Float.Ieee.{of_bits}
use Rattle.base.specs.LittleEndian.{le_at}
use Rattle.math.specs.Stored.{values_of}
use Rattle.math.specs.declared.mat4.Mat4.{Mat4}
use Rattle.math.specs.declared.mat4.Vec4.{Vec4}
use Rattle.math.specs.declared.words3.Words3.{Words3}
use Rattle.meshes.specs.declared.Bound.{Bound}
use Rattle.meshes.specs.declared.Counts.{Counts}
use Rattle.meshes.specs.declared.Frame.{Frame}
use Rattle.mesh_input.specs.declared.InputRefusal.{InputRefusal}
use Rattle.mesh_input.specs.declared.InputRefusal.TheVariants.{TooLong, WrongLength}

-- the three words, the float and the four floats from byte k on
unfoldable pub words3_at : List ℕ → ℕ → Words3
words3_at bytes k = record { x = le_at 4 bytes k; y = le_at 4 bytes (k + 4); z = le_at 4 bytes (k + 8) }

unfoldable pub float_at : List ℕ → ℕ → Float
float_at bytes k = of_bits binary32 (le_at 4 bytes k)

unfoldable pub row_at : List ℕ → ℕ → Vec4
row_at bytes k = record { x = float_at bytes k; y = float_at bytes (k + 4); z = float_at bytes (k + 8); w = float_at bytes (k + 12) }

-- Rule L12: box, centres and radius, as words.
unfoldable pub frame_of : List ℕ → Frame
frame_of bytes =
    record {
      box_min = words3_at bytes 16;
      box_max = words3_at bytes 28;
      box_center = words3_at bytes 40;
      sphere_center = words3_at bytes 52;
      sphere_radius = le_at 4 bytes 64;
    }

-- Rule L12: the transform, row after row.
unfoldable pub transform_of : List ℕ → Mat4
transform_of bytes = record { row0 = row_at bytes 84; row1 = row_at bytes 100; row2 = row_at bytes 116; row3 = row_at bytes 132 }

-- Rule L12: kind, frame, margin, centre and transform.
unfoldable pub bound_of : List ℕ → Bound
bound_of bytes =
    record {
      kind = le_at 4 bytes 0;
      frame = frame_of bytes;
      margin = float_at bytes 68;
      center = values_of (words3_at bytes 72);
      transform = transform_of bytes;
    }

-- Rule L12: how many polygons, vertices and materials there are.
unfoldable pub counts_of : List ℕ → Counts
counts_of bytes = record { polygons = le_at 4 bytes 4; vertices = le_at 4 bytes 8; materials = le_at 4 bytes 12 }

-- Rule L12: the n words from byte k on; the materials begin at byte 148, the vertices behind them.
abbrev pub words_at : List ℕ → ℕ → ℕ → List ℕ
words_at bytes k zero = []
words_at bytes k (suc n) = words_at bytes k n ++ (le_at 4 bytes (k + 4 * n) ∷ [])

-- Rule L12: how many bytes an input with these counts has.
abbrev pub length_of : Counts → ℕ
length_of c = 148 + 8 * c.materials + 12 * c.vertices + 17 * c.polygons

-- Rule L13: why the program refuses an input: it is over 8,192 bytes, or has not the length of its counts.
unfoldable pub check_of : List ℕ → Result ⊤ InputRefusal
check_of bytes =
    cond (ltb 8192 (length bytes)) (Err TooLong)
    (cond (ltb (length bytes) 148) (Err WrongLength)
    (cond (eqb (length_of (counts_of bytes)) (length bytes)) (Ok tt) (Err WrongLength)))

-- 01's number for each reason
abbrev pub refusal_number : InputRefusal → ℕ
refusal_number TooLong = 1
refusal_number WrongLength = 13

-- the number that the program prints of an input that it refuses, 0 where it does not
abbrev pub number_of : Result ⊤ InputRefusal → ℕ
number_of (Ok passed) = 0
number_of (Err why) = refusal_number why

unfoldable pub refusal_of : List ℕ → ℕ
unfolding check_of
refusal_of bytes = number_of (check_of bytes)

-- An input that is not refused.
pub record Whole (bytes : List ℕ) : Type 0 where
  pub few : length bytes ≤ 8192
  pub size : length_of (counts_of bytes) ≡ length bytes
