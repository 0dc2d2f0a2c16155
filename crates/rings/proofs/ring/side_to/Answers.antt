-- `ring::side_to` meets its contract: each return by the tests that led there.
use mathlib.Core.Path.{sym, ◌∙◌}
use borrow.Author.Tests.{eq-eqb, ne_eqb}
use native.Mathlib.Omega.{arith}
use Rattle.rings.proofs.SideLaws.{side_to_is}
use Rattle.rings.proofs.ring.side_to.Goals as goal

pub returns-then-corners-at : goal.returns-then-corners-at
returns-then-corners-at c =
    let a = c.args in
    (sym (side_to_is a.corners.now a.p a.v ∙ simp (eq-eqb _ _ c.if-corners-at.true)), omega arith)

pub returns-then-corners-at-2 : goal.returns-then-corners-at-2
returns-then-corners-at-2 c =
    let a = c.args in
    (sym (side_to_is a.corners.now a.p a.v ∙ simp (ne_eqb _ _ c.if-corners-at.false, eq-eqb _ _ c.if-corners-at-2.true)), omega arith)

pub returns-then-corners-at-3 : goal.returns-then-corners-at-3
returns-then-corners-at-3 c =
    let a = c.args in (
      sym (side_to_is a.corners.now a.p a.v ∙ simp
          (ne_eqb _ _ c.if-corners-at.false, ne_eqb _ _ c.if-corners-at-2.false, eq-eqb _ _ c.if-corners-at-3.true)),
      omega arith,
    )

pub returns : goal.returns
returns c =
    let a = c.args in
    side_to_is a.corners.now a.p a.v ∙ simp
    (ne_eqb _ _ c.if-corners-at.false, ne_eqb _ _ c.if-corners-at-2.false, ne_eqb _ _ c.if-corners-at-3.false)
