-- `link_runs` links each side, by the invariant `Running`.
use native.Mathlib.Omega.{arith}
use Prim.Native.Nat.{ℕ, ◌+◌}
use mathlib.Core.Path.{sym, ap, ◌∙◌}
use Rattle.side_order.proofs.runs.Running.{goes_on, begins}
use Rattle.side_order.proofs.runs.link_runs.Goals as goal
use Rattle.side_order.proofs.runs.link_runs.Goals.{in-Some, in_default}

pub loop-i-preserved : goal.loop-i-preserved
loop-i-preserved c =
    let l = c.loop-i in
    let key = c.key_at-key.ensures.0 in
    elim c.match-first_with.branch [
      | in-Some w ↦
          let run = ap (λ (k : ℕ). k + 1) (sym key) ∙ w.in-Some.ensures.0 in
          let on = goes_on _ _ _ _ _ _ _ l.invariant (omega arith) run in
          rw (w.links-is, w.run-is, w.polygon_of.ensures, w.in-Some.ensures.1) on
      | in_default w ↦
          let begun = begins _ _ _ _ _ _ _ l.invariant (omega arith) (λ e. w.in_default.ensures (ap (λ (k : ℕ). k + 1) key ∙ e)) in
          rw (w.links-is, w.run-is, w.link_of_first.ensures, key) begun
    ]
