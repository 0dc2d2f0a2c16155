-- `check::none_fails` meets its contract. The loop's invariant: none of the vertices whose turn was before k fails.
use mathlib.Core.Path.{◌≡◌, refl, sym, ap, ◌∙◌}
use Prim.Native.Nat.{ℕ}
use Rattle.rays.specs.Steps.Counting.{none_to}
use Rattle.rays.specs.Steps.Checking.{fails_in, turn_of}
use Rattle.rays.proofs.CountLaws.{none_next, some_at}
use Rattle.rays.proofs.TurnLaws.{all_turns}
use native.Mathlib.Omega.{arith}
use Rattle.rays.proofs.check.none_fails.Goals as goal

pub loop-k-init : goal.loop-k-init
loop-k-init c = refl

pub fails-requires : goal.fails-requires
fails-requires c = (c.requires, c.turn-i.ensures.1)

pub returns-then-fails : goal.returns-then-fails
returns-then-fails c =
    let a = c.args in
    sym (some_at a.v (fails_in a.tri.now a.t a.old.now a.new.now) c.turn-i.result c.turn-i.ensures.1
    (sym c.fails.ensures ∙ c.if-fails.true))

pub loop-k-preserved : goal.loop-k-preserved
loop-k-preserved c =
    let a = c.args in
    let l = c.loop-k in
    let fails = fails_in a.tri.now a.t a.old.now a.new.now in
    none_next l.k (λ k. fails (turn_of a.hint a.v k)) l.invariant
    (ap fails (sym c.turn-i.ensures.0) ∙ sym c.fails.ensures ∙ c.if-fails.false)

pub returns : goal.returns
returns c =
    let a = c.args in
    let l = c.loop-k in
    let end : l.k ≡ a.v = omega arith in
    let fails = fails_in a.tri.now a.t a.old.now a.new.now in
    sym (all_turns a.hint a.v fails (ap (λ (k : ℕ). none_to k (λ k. fails (turn_of a.hint a.v k))) (sym end) ∙ l.invariant))
