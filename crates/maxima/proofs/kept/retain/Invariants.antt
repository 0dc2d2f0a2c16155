-- `retain` meets its contract. The invariant is `Thinning`: what stands, followed by what the rest gives, is the whole.
use mathlib.Core.Bool.{not}
use Rattle.far_order.specs.Rows.{shadowed_at}
use Rattle.maxima.proofs.Keeping.{Thinning}
use Rattle.maxima.proofs.kept.retain.Given as goal

abbrev pub invariant-loop-k : goal.invariant-loop-k
invariant-loop-k l = Thinning (λ p. not (shadowed_at l.n l.rows p l.i)) l.initial.kept l.kept l.left l.k
