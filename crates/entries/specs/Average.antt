-- The centre of a box, and the average of boxes. Definitions only.
use Rattle.std.specs.Prelude.{ℕ, List, [], ◌∷◌, length}
use Rattle.std.specs.Float.{binary32}
use Rattle.std.specs.Float.Ieee.{of_bits}
use Rattle.float32.specs.Counts.{of_count}
use Rattle.math.specs.declared.vec3.Vec3.{Vec3}
use Rattle.math.specs.Stored.{values_of}
use Rattle.math.specs.Vec3s.{◌⊘◌, add_of, scale_of}
use Rattle.math.specs.Transform.{half}
use Rattle.entries.specs.declared.boxes.BoxWords.{BoxWords}

-- Rule T3 (bvh.rs, centre): (min + max) · 0.5.
abbrev pub centre_of : BoxWords → Vec3
centre_of b = scale_of (add_of (values_of b.min) (values_of b.max)) half

-- +0 on each axis
abbrev pub origin : Vec3
origin = record { x = of_bits binary32 0; y = of_bits binary32 0; z = of_bits binary32 0 }

-- min, then max, item after item
abbrev pub sum_from : (ℕ → BoxWords) → Vec3 → List ℕ → Vec3
sum_from at s [] = s
sum_from at s (p ∷ ps) = sum_from at (add_of (add_of s (values_of (at p).min)) (values_of (at p).max)) ps

-- Rule T4 (01, Tree build; bvh.rs, avg): the sum times 0.5 / n.
unfoldable pub average_of : (ℕ → BoxWords) → List ℕ → Vec3
average_of at ps = scale_of (sum_from at origin ps) (half ⊘ of_count (length ps))
