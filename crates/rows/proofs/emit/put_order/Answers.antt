-- `emit::put_order` meets its contract. The loop's invariant: the first i places are written.
use Rattle.base.proofs.NumberLaws.{below_at}
use Rattle.base.specs.Lists.{over}
use Prim.Native.Nat.{ℕ}
use mathlib.Core.Path.{refl, ◌∙◌, ap}
use mathlib.Core.List.{List}
use lib.Seq.{take_all}
use Rattle.rows.proofs.emit.Writing.{number_next}
use native.Mathlib.Omega.{arith}
use Rattle.rows.proofs.emit.put_order.Goals as goal

pub loop-i-init : goal.loop-i-init
loop-i-init c = record { upto = omega arith; same = refl; held = refl }

pub overflow_cast-order : goal.overflow_cast-order
overflow_cast-order c =
    omega (arith, below_at 65536 c.args.places.now c.loop-i.i c.requires.1 (omega arith))

pub loop-i-preserved : goal.loop-i-preserved
loop-i-preserved c =
    let l = c.loop-i in
    let a = c.args in
    number_next a.order.now l.order a.places.now l.i l.invariant (omega arith) (omega arith)

pub returns : goal.returns
returns c =
    let l = c.loop-i in
    let a = c.args in
    l.invariant.held ∙ ap (λ (w : List ℕ). over w a.order.now) (take_all l.i a.places.now c.loop-i-test.false)
