-- The kind that the bytes of a record have is that of its eight numbers, and the polygon of eight numbers, by its kind. Assumes nothing.
use Prim.Native.Nat.{ℕ, ◌%◌}
use native.Mathlib.Omega.{arith}
use mathlib.Core.List.{List}
use mathlib.Core.Path.{◌≡◌}
use borrow.Author.Tests.{ne_eqb}
use Rattle.base.specs.LittleEndian.{le_at}
use Rattle.polygon.specs.Halves.{halves_at}
use Rattle.polygon.specs.Polygons.{triangle_of, sphere_of, capsule_of, box_of, cylinder_of, polygon_of, kind_at}
use Rattle.polygon.specs.declared.halves.Halves.{Halves}

pub kind_read : (bytes : List ℕ) (k : ℕ) → (halves_at bytes k).at0 % 8 ≡ kind_at bytes k
unfolding halves_at le_at
kind_read bytes k = omega arith

module _ (h : Halves) where
  pub triangle_by_kind : h.at0 % 8 ≡ 0 → polygon_of h ≡ triangle_of h
  unfolding polygon_of
  triangle_by_kind e = rw e

  pub box_by_kind : h.at0 % 8 ≡ 3 → polygon_of h ≡ box_of h
  unfolding polygon_of
  box_by_kind e = rw e

  pub sphere_by_kind : h.at0 % 8 ≡ 1 → polygon_of h ≡ sphere_of h
  unfolding polygon_of
  sphere_by_kind e = rw e

  pub capsule_by_kind : h.at0 % 8 ≡ 2 → polygon_of h ≡ capsule_of h
  unfolding polygon_of
  capsule_by_kind e = rw e

  pub cylinder_by_kind : (h.at0 % 8 ≡ 0 → ⊥) → (h.at0 % 8 ≡ 3 → ⊥) → (h.at0 % 8 ≡ 1 → ⊥) → (h.at0 % 8 ≡ 2 → ⊥) → polygon_of h ≡ cylinder_of h
  unfolding polygon_of
  cylinder_by_kind n0 n3 n1 n2 = rw (ne_eqb _ 0 n0, ne_eqb _ 3 n3, ne_eqb _ 1 n1, ne_eqb _ 2 n2)
