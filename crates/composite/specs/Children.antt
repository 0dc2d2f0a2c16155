-- Rules C1 and C3: the children of a composite, 24 words each, and their computed boxes (01, composites; bounds.rs, Composite, transform_box). A word past
-- the list is 0. Definitions only.
use Rattle.std.specs.Prelude.{ℕ, ◌+◌, ◌*◌, ◌/◌, Bool, cond, ◌&&◌, List, length, from_bits, nat_lt, slice_index}
use Rattle.std.specs.Float.{binary32}
use Rattle.bvh.specs.Items.{is_marked}
use Rattle.entries.specs.Boxes.{box_from}
use Rattle.entries.specs.declared.boxes.BoxWords.{BoxWords}
use Rattle.math.specs.declared.aabb.Aabb.{Aabb}
use Rattle.math.specs.declared.mat4.Mat4.{Mat4}
use Rattle.math.specs.declared.mat4.Vec4.{Vec4}
use Rattle.math.specs.declared.vec3.Vec3.{Vec3}
use Rattle.math.specs.Stored.{values_of}
use Rattle.math.specs.Transform.{transform_box}
use Rattle.composite.specs.declared.children.ChildBox.{ChildBox}

-- Rule C1: word 0 of a child is its mark, 0 where it is absent.
abbrev pub mark_of : List ℕ → ℕ → ℕ
mark_of ws k = slice_index ws (24 * k)

abbrev pub is_present : List ℕ → ℕ → Bool
is_present ws k = is_marked (mark_of ws k)

-- Rule C1: words 1 to 6 are its box, min and then max.
abbrev pub box_of : List ℕ → ℕ → BoxWords
box_of ws k = box_from ws (24 * k + 1)

-- Rule C1: word 7 is its margin.
abbrev pub margin_of : List ℕ → ℕ → ℕ
margin_of ws k = slice_index ws (24 * k + 7)

-- four words as floats
abbrev pub row_at : List ℕ → ℕ → Vec4
row_at ws at =
    record {
      x = from_bits binary32 (slice_index ws at);
      y = from_bits binary32 (slice_index ws (at + 1));
      z = from_bits binary32 (slice_index ws (at + 2));
      w = from_bits binary32 (slice_index ws (at + 3));
    }

-- Rule C1: words 8 to 23 are its transform, row after row.
unfoldable pub matrix_at : List ℕ → ℕ → Mat4
matrix_at ws at = record { row0 = row_at ws at; row1 = row_at ws (at + 4); row2 = row_at ws (at + 8); row3 = row_at ws (at + 12) }

-- Rule C3 (01, composites: `transform_box`): the box through the transform, whatever the mark.
unfoldable pub computed_box : List ℕ → ℕ → Aabb
computed_box ws k =
    transform_box (record { min = values_of (box_of ws k).min; max = values_of (box_of ws k).max }) (matrix_at ws (24 * k + 8))

-- no box: zeros
unfoldable pub no_box : ChildBox
no_box =
    let zero : Vec3 = record { x = from_bits binary32 0; y = from_bits binary32 0; z = from_bits binary32 0 } in
    record { present = 0; min = zero; max = zero }

-- the computed box of child k; none where it is absent, or its 24 words are not all there
unfoldable pub child_box_of : List ℕ → ℕ → ChildBox
child_box_of ws k =
    cond (nat_lt k (length ws / 24) && is_present ws k)
    (record { present = 1; min = (computed_box ws k).min; max = (computed_box ws k).max }) no_box
