-- `retain` meets its contract. The invariant is `Thinning`: what stands, followed by what the rest gives, is the whole.
use Prim.Native.Nat.{◌<◌}
use mathlib.Core.Path.{sym, ap, ◌∙◌}
use mathlib.Core.Bool.{not}
use Rattle.base.proofs.EveryLaws.{every_at}
use Rattle.maxima.proofs.Keeping.{unthinned, same_here, taken_out, left_in, thinned}
use native.Mathlib.Omega.{arith}
use Rattle.maxima.proofs.kept.retain.Goals as goal
use Rattle.maxima.proofs.kept.retain.Goals.{then-not-shadowed, else-not-shadowed}

pub loop-k-init : goal.loop-k-init
loop-k-init c = unthinned _ _

pub shadowed-requires : goal.shadowed-requires
shadowed-requires c =
    let l = c.loop-k in (
      c.requires.size,
      rw (same_here _ _ _ _ _ l.invariant (omega (arith, l.invariant.len)))
          (every_at (λ p. p < c.args.n) c.args.kept.now l.k c.requires.below (omega (arith, l.invariant.len))),
      c.requires.vertex,
    )

pub loop-k-preserved : goal.loop-k-preserved
loop-k-preserved c =
    let l = c.loop-k in
    elim c.if-not-shadowed.branch [
      | then-not-shadowed w ↦
          rw (w.kept-is, w.left-is) (left_in _ _ _ _ _ l.invariant (omega (arith, l.invariant.len)) (ap not (sym c.shadowed.ensures ∙ w.if-not-shadowed.true)))
      | else-not-shadowed w ↦
          rw (w.kept-is, w.left-is) (taken_out _ _ _ _ _ l.invariant (omega (arith, l.invariant.len)) (ap not (sym c.shadowed.ensures ∙ w.if-not-shadowed.false)))
    ]

pub returns : goal.returns
returns c = thinned _ _ _ _ _ c.loop-k.invariant (omega (arith, c.loop-k.invariant.len))
