-- No buffer is too short for the mesh of an input: preparing it is never refused with 2.
use Prim.Native.Nat.{ℕ, ◌+◌, ◌*◌, ◌≤◌}
use native.Mathlib.Omega.{arith}
use mathlib.Core.Bool.{false}
use mathlib.Core.Path.{◌≡◌}
use borrow.Author.Tests.{le-ltb}
use Rattle.meshes.specs.Sizes.{short}
use Rattle.meshes.specs.declared.Counts.{Counts}
use Rattle.mesh_input.specs.Input.{length_of}
use Rattle.mesh_input.specs.Room.{lent}

pub never_short : (c : Counts) → length_of c ≤ 8192 → short c (lent c) ≡ false
unfolding short
never_short c h =
    let p : ℕ = c.polygons in
    let v : ℕ = c.vertices in
    let m : ℕ = c.materials in
    rw (
      le-ltb (16 * p) (16 * p) (omega arith),
      le-ltb (p) (p) (omega arith),
      le-ltb (2048) (2 * m) (omega arith),
      le-ltb (2048) (3 * v) (omega arith),
      le-ltb (2048) (2048) (omega arith),
      le-ltb (512) (p) (omega arith),
      le-ltb (8192) (16 * p) (omega arith),
      le-ltb (4096) (6 * v) (omega arith),
      le-ltb (5376) (8 * v) (omega arith),
      le-ltb (15360) (16 * (2 * p + 1)) (omega arith),
      le-ltb (3328) (7 * p + 4 * v) (omega arith),
      le-ltb (2048) (3 * p + 3 * v) (omega arith),
      le-ltb (1536) (3 * p + v) (omega arith),
      le-ltb (7680) (16 * p + 8 + v) (omega arith),
      le-ltb (1920) (4 * p) (omega arith),
      le-ltb (4352) (9 * p) (omega arith),
    )
