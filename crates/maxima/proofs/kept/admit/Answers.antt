-- `admit` meets its contract: by the two ways of the definition.
use mathlib.Core.Path.{sym, ◌∙◌}
use lib.Seq.{length-take-le}
use Rattle.far_order.specs.Rows.{shadowed_at}
use Rattle.maxima.proofs.Keeping.{passes_over, fewer, has_place, placed, joins, all_below}
use native.Mathlib.Omega.{arith}
use Rattle.maxima.proofs.kept.admit.Goals as goal

pub slice_bounds-shadowed_first-end-2 : goal.slice_bounds-shadowed_first-end-2
slice_bounds-shadowed_first-end-2 c = sym (length-take-le _ c.args.kept.now (omega (arith, c.requires.room)))

pub returns-then-shadowed_first : goal.returns-then-shadowed_first
returns-then-shadowed_first c = passes_over _ _ _ _ c.requires.room (sym c.shadowed_first.ensures ∙ c.if-shadowed_first.true)

pub slice_bounds-retain-end-2 : goal.slice_bounds-retain-end-2
slice_bounds-retain-end-2 c =
    sym (length-take-le _ c.args.kept.now (omega (arith, c.requires.room)))

pub offset_bounds-kept-left : goal.offset_bounds-kept-left
offset_bounds-kept-left c =
    omega (
      arith,
      c.requires.room,
      fewer (shadowed_at c.args.n c.args.rows.now) c.args.kept.now c.args.s.count c.args.i
          c.requires.room _ _ c.retain-left.ensures,
    )

pub bounds-kept-left : goal.bounds-kept-left
bounds-kept-left c =
    has_place (shadowed_at c.args.n c.args.rows.now) c.args.kept.now c.args.s.count c.args.i c.requires.room _ _
    (c.retain-left.auto.kept ∙ length-take-le _ c.args.kept.now (omega (arith, c.requires.room))) c.retain-left.ensures

pub overflow_add-count : goal.overflow_add-count
overflow_add-count c =
    omega (
      arith,
      c.requires.room,
      fewer (shadowed_at c.args.n c.args.rows.now) c.args.kept.now c.args.s.count c.args.i
          c.requires.room _ _ c.retain-left.ensures,
    )

pub slice_bounds-furthest-end : goal.slice_bounds-furthest-end
slice_bounds-furthest-end c =
    placed (shadowed_at c.args.n c.args.rows.now) c.args.kept.now c.args.s.count c.args.i c.requires.room _ _
    (c.retain-left.auto.kept ∙ length-take-le _ c.args.kept.now (omega (arith, c.requires.room))) c.retain-left.ensures

pub slice_bounds-furthest-end-2 : goal.slice_bounds-furthest-end-2
slice_bounds-furthest-end-2 c =
    sym (length-take-le _ _ (placed (shadowed_at c.args.n c.args.rows.now) c.args.kept.now c.args.s.count c.args.i c.requires.room _ _
    (c.retain-left.auto.kept ∙ length-take-le _ c.args.kept.now (omega (arith, c.requires.room))) c.retain-left.ensures))

pub furthest-first-requires : goal.furthest-first-requires
furthest-first-requires c =
    let s = shadowed_at c.args.n c.args.rows.now in
    let none = sym c.shadowed_first.ensures ∙ c.if-shadowed_first.false in (
      c.requires.testable.size,
      all_below s _ _ _ _ _ c.requires.testable.vertex c.requires.testable.below none
          (joins s c.args.kept.now c.args.s.count c.args.i c.requires.room _ _
          (c.retain-left.auto.kept ∙ length-take-le _ c.args.kept.now (omega (arith, c.requires.room))) none c.retain-left.ensures),
    )

pub returns : goal.returns
returns c =
    joins _ _ _ _ c.requires.room _ _ (c.retain-left.auto.kept ∙ length-take-le _ c.args.kept.now (omega (arith, c.requires.room)))
    (sym c.shadowed_first.ensures ∙ c.if-shadowed_first.false) c.retain-left.ensures
