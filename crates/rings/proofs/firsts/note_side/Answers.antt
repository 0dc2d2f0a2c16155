-- `firsts::note_side` meets its contract: each way by its tests.
use mathlib.Core.Bool.{Bool, ◌&&◌, cond}
use mathlib.Core.Path.{sym, ap, ap₂}
use lib.Dec.{eqb}
use lib.ListN.{get_or, set}
use borrow.Author.Tests.{lt-ltb, le-ltb, eq-eqb, ne_eqb}
use Rattle.rings.specs.Firsts.{no_side}
use Rattle.rings.specs.Steps.Stored.{noted}
use Rattle.rings.proofs.firsts.note_side.Goals as goal

pub returns-then-firsts-i : goal.returns-then-firsts-i
unfolding noted
returns-then-firsts-i c =
    let a = c.args in
    ap₂ (λ (s t : Bool). cond (s && t) (set a.firsts.now a.i a.s) a.firsts.now) (sym (lt-ltb _ _ c.if-i-v.true))
    (sym (eq-eqb _ _ c.if-firsts-i.true))

pub returns-else-firsts-i : goal.returns-else-firsts-i
unfolding noted
returns-else-firsts-i c =
    let a = c.args in
    ap₂ (λ (s t : Bool). cond (s && t) (set a.firsts.now a.i a.s) a.firsts.now) (sym (lt-ltb _ _ c.if-i-v.true))
    (sym (ne_eqb _ _ c.if-firsts-i.false))

pub returns-else-i-v : goal.returns-else-i-v
unfolding noted
returns-else-i-v c =
    let a = c.args in
    ap (λ (s : Bool). cond (s && eqb (get_or a.firsts.now a.i 0) no_side) (set a.firsts.now a.i a.s) a.firsts.now)
    (sym (le-ltb _ _ c.if-i-v.false))
