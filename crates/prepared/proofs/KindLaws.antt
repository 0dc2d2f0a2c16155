-- The kind of a mesh that one of the entry points takes. Assumes nothing.
use Rattle.std.specs.Prelude.{◌≡◌, ℕ, Bool, true, false, ◌||◌, eqb}
use mathlib.Core.Path.{refl, sym, ◌∙◌}
use borrow.Author.Tests.{eqb-true}
use Rattle.base.proofs.Truth.{or_no}
use Rattle.meshes.specs.Checks.{is_geometry, is_bvh}

or_none : (a b : Bool) → b ≡ false → a || b ≡ a
or_none true b e = refl
or_none false b e = e

pub kind_four : (k : ℕ) → is_geometry k || is_bvh k ≡ true → is_bvh k ≡ false → k ≡ 4
kind_four k e other = eqb-true k 4 (sym (or_none (eqb k 4) (eqb k 8) other) ∙ e)

pub kind_eight : (k : ℕ) → is_geometry k || is_bvh k ≡ true → is_geometry k ≡ false → k ≡ 8
kind_eight k e other = eqb-true k 8 (sym (or_no (eqb k 8) other) ∙ e)
