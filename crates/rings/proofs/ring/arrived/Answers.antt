-- `ring::arrived` meets its contract: each arm by its test.
use mathlib.Core.Path.{sym, ap}
use mathlib.Core.Bool.{Bool, cond}
use borrow.Author.Tests.{eq-eqb, ne_eqb}
use Rattle.corners.specs.Corners.{none}
use Rattle.rings.proofs.ring.arrived.Goals as goal

pub returns-then-to-poly : goal.returns-then-to-poly
returns-then-to-poly c =
    let a = c.args in
    let end = ap (λ (t : Bool). cond t none a.to) (sym (eq-eqb _ _ c.if-to-poly.true)) in
    λ i. record { prev = a.from; at = end i }

pub returns : goal.returns
returns c =
    let a = c.args in
    let end = ap (λ (t : Bool). cond t none a.to) (sym (ne_eqb _ _ c.if-to-poly.false)) in
    λ i. record { prev = a.from; at = end i }
