-- Transforms and boxes (math.rs, Mat4; bounds.rs, transform_box). The source's get(c, r) is component r of row c. Definitions only.
use Rattle.std.specs.Prelude.{Float}
use Rattle.std.specs.Float.{binary32}
use Rattle.std.specs.Float.Ieee.{of_bits}
use Rattle.float32.specs.Signs as Signs
use Rattle.math.specs.Vec3s.{◌⊕◌, ◌⊗◌, ◌⊘◌, one, add_of, sub_of, scale_of, abs_of}
use Rattle.math.specs.declared.vec3.Vec3.{Vec3}
use Rattle.math.specs.declared.mat4.Vec4.{Vec4}
use Rattle.math.specs.declared.mat4.Mat4.{Mat4}
use Rattle.math.specs.declared.aabb.Aabb.{Aabb}

-- the matrix of absolute values
abbrev pub abs_row : Vec4 → Vec4
abs_row r = record { x = Signs.abs_of r.x; y = Signs.abs_of r.y; z = Signs.abs_of r.z; w = Signs.abs_of r.w }

unfoldable pub abs_matrix : Mat4 → Mat4
abs_matrix m = record { row0 = abs_row m.row0; row1 = abs_row m.row1; row2 = abs_row m.row2; row3 = abs_row m.row3 }

-- A column of the matrix with a direction: the products' sum from row 0 on.
abbrev pub column : (Vec4 → Float) → Mat4 → Vec3 → Float
column at m v = ((at m.row0 ⊗ v.x) ⊕ (at m.row1 ⊗ v.y)) ⊕ (at m.row2 ⊗ v.z)

-- Rule V10 (math.rs, transform_vector): three columns.
unfoldable pub vector_of : Mat4 → Vec3 → Vec3
vector_of m v =
    record { x = column (λ (r : Vec4). r.x) m v; y = column (λ (r : Vec4). r.y) m v; z = column (λ (r : Vec4). r.z) m v }

-- Rule V11 (math.rs, transform_point): four columns, with row 3 added last.
unfoldable pub point_of : Mat4 → Vec3 → Vec4
point_of m p =
    record {
      x = column (λ (r : Vec4). r.x) m p ⊕ m.row3.x;
      y = column (λ (r : Vec4). r.y) m p ⊕ m.row3.y;
      z = column (λ (r : Vec4). r.z) m p ⊕ m.row3.z;
      w = column (λ (r : Vec4). r.w) m p ⊕ m.row3.w;
    }

-- 0.5
abbrev pub half : Float
half = of_bits binary32 0x3f00_0000

abbrev pub xyz : Vec4 → Vec3
xyz v = record { x = v.x; y = v.y; z = v.z }

-- the image of the centre, divided by its w, and the half extent through the absolute values
unfoldable pub centre_image : Aabb → Mat4 → Vec3
centre_image b m =
    let p = point_of m (scale_of (add_of b.max b.min) half) in
    scale_of (xyz p) (one ⊘ p.w)

unfoldable pub extent_image : Aabb → Mat4 → Vec3
extent_image b m = abs_of (vector_of (abs_matrix m) (scale_of (sub_of b.max b.min) half))

-- Rule V12 (01, Composites; bounds.rs, transform_box): the centre's image less and plus the extent's.
unfoldable pub transform_box : Aabb → Mat4 → Aabb
transform_box b m =
    record { min = sub_of (centre_image b m) (extent_image b m); max = add_of (centre_image b m) (extent_image b m) }
