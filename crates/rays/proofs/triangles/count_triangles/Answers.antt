-- `triangles::count_triangles` meets its contract. The loop's invariant: t counts the triangles before p.
use Prim.Native.Nat.{ℕ, ◌+◌, ◌*◌}
use mathlib.Core.Path.{◌≡◌, refl, sym, ap, ap₂, ◌∙◌}
use lib.ListN.{length}
use Rattle.base.proofs.ListLaws.{one_or_none}
use Rattle.corners.specs.Corners.{there}
use Rattle.rays.proofs.TriangleLaws.{count_more_lem}
use Rattle.rays.specs.Checks.{triangles_of}
use native.Mathlib.Omega.{arith}
use Rattle.rays.proofs.triangles.count_triangles.Goals as goal

pub loop-p-init : goal.loop-p-init
loop-p-init c = (omega arith, refl)

pub overflow_add-t : goal.overflow_add-t
overflow_add-t c =
    let a = c.args in
    let l = c.loop-p in
    omega (
      arith,
      c.one_if_there-t.ensures,
      one_or_none (there a.corners.now (3 * l.p)),
      l.invariant.0,
      c.requires.1,
    )

pub loop-p-preserved : goal.loop-p-preserved
loop-p-preserved c =
    let a = c.args in
    let l = c.loop-p in (
      omega (arith, c.one_if_there-t.ensures, one_or_none (there a.corners.now (3 * l.p)), l.invariant.0),
      ap₂ ◌+◌ l.invariant.1 c.one_if_there-t.ensures ∙ sym (count_more_lem a.corners.now l.p),
    )

pub returns : goal.returns
returns c =
    let a = c.args in
    let l = c.loop-p in
    let end : l.p ≡ a.n = omega arith in
    (l.invariant.1 ∙ ap (λ (k : ℕ). length (triangles_of a.corners.now k)) end, omega (arith, l.invariant.0))
