-- Shadowing is transitive in each octant, over all stored vertices, NaN and infinities with them.
use mathlib.Core.Bool.{Bool, ◌&&◌}
use mathlib.Core.List.{List}
use Prim.Native.Nat.{ℕ}
use lib.Dec.{T}
use lib.Ieee.{binary32, fits}
use lib.Ieee.Bits.{of_bits-fits}
use lib.Ieee.Fits.{and_l, and_r, and_i}
use Rattle.math.specs.declared.vec3.Vec3.{Vec3}
use Rattle.shadows.specs.Shadows.{flip_of, reaches, shadowed_by, falls_x, falls_y, falls_z, sign}
use Rattle.shadows.specs.Octants.{vertex_at, shadowed_in}
use Rattle.shadows.specs.Maxima.{Transitive}
use Rattle.shadows.proofs.AxisLaws.{reaches_trans}
use denote.Floats.{passes, is_true}

-- the coordinates are values of binary32
pub record Stored (v : Vec3) : Type 0 where
  pub fits_x : T (fits binary32 v.x)
  pub fits_y : T (fits binary32 v.y)
  pub fits_z : T (fits binary32 v.z)

-- what is so of each of three tests is so of all three
pub three : (p q r p' q' r' p'' q'' r'' : Bool) → (T p → T p' → T p'') → (T q → T q' → T q'') → (T r → T r' → T r'') → T (p && (q && r))
    → T (p' && (q' && r')) → T (p'' && (q'' && r''))
three p q r p' q' r' p'' q'' r'' f g h t u =
    let v = and_r p (q && r) t in
    let w = and_r p' (q' && r') u in
    and_i p'' (q'' && r'') (f (and_l p (q && r) t) (and_l p' (q' && r') u))
    (and_i q'' r'' (g (and_l q r v) (and_l q' r' w)) (h (and_r q r v) (and_r q' r' w)))

pub shadowed_by_trans : (o : ℕ) (a b c : Vec3) → Stored a → Stored b → Stored c
    → T (shadowed_by (flip_of o) a b) → T (shadowed_by (flip_of o) b c) → T (shadowed_by (flip_of o) a c)
unfolding shadowed_by flip_of
shadowed_by_trans o a b c A B C =
    three (reaches (sign (falls_x o)) a.x b.x) (reaches (sign (falls_y o)) a.y b.y) (reaches (sign (falls_z o)) a.z b.z)
    (reaches (sign (falls_x o)) b.x c.x) (reaches (sign (falls_y o)) b.y c.y) (reaches (sign (falls_z o)) b.z c.z)
    (reaches (sign (falls_x o)) a.x c.x) (reaches (sign (falls_y o)) a.y c.y) (reaches (sign (falls_z o)) a.z c.z)
    (reaches_trans (falls_x o) a.x b.x c.x A.fits_x B.fits_x C.fits_x)
    (reaches_trans (falls_y o) a.y b.y c.y A.fits_y B.fits_y C.fits_y)
    (reaches_trans (falls_z o) a.z b.z c.z A.fits_z B.fits_z C.fits_z)

pub vertex_stored : (ws : List ℕ) (i : ℕ) → Stored (vertex_at ws i)
vertex_stored ws i =
    record { fits_x = of_bits-fits binary32 _; fits_y = of_bits-fits binary32 _; fits_z = of_bits-fits binary32 _ }

-- What shadows a vertex is itself shadowed only by what shadows that vertex too.
pub shadowed_trans : (o : ℕ) (ws : List ℕ) → Transitive (shadowed_in (flip_of o) ws)
unfolding shadowed_in
shadowed_trans o ws i j k h h' =
    is_true _
    (shadowed_by_trans o (vertex_at ws i) (vertex_at ws j) (vertex_at ws k) (vertex_stored ws i) (vertex_stored ws j) (vertex_stored ws k) (passes _ h)
    (passes _ h'))
