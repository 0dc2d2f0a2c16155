-- `ring::onward` meets its contract: by the side, the walker stays or goes over the other link.
use mathlib.Core.Path.{◌≡◌, sym, ap, ◌∙◌}
use mathlib.Core.Bool.{Bool, false, cond}
use Prim.Native.Nat.{ℕ}
use lib.Dec.{eqb}
use borrow.Author.Tests.{eq-eqb, ne_eqb}
use Rattle.rings.specs.Firsts.{no_side}
use Rattle.rings.specs.Rings.{side_to, other_link, arrived, onward}
use native.Mathlib.Omega.{arith}
use Rattle.rings.proofs.ring.onward.Goals as goal

pub returns-in_default : goal.returns-in_default
unfolding onward
returns-in_default c =
    let a = c.args in
    let to = other_link a.links.now (side_to a.corners.now a.w.at a.v) a.w.prev in
    ap (λ (t : Bool). cond t a.w (arrived a.poly a.w.at to)) (sym (eq-eqb _ _ c.in_default.ensures))

pub other_link-requires : goal.other_link-requires
other_link-requires c =
    let m = c.requires.0 in
    (omega (arith, m.links_in, c.requires.1, c.in-Some.ensures.1), omega (arith, m.few, c.requires.1, c.in-Some.ensures.1))

pub returns : goal.returns
unfolding onward
returns c =
    let a = c.args in
    let side = c.in-Some.ensures.0 in
    let to = other_link a.links.now (side_to a.corners.now a.w.at a.v) a.w.prev in
    let some : eqb (side_to a.corners.now a.w.at a.v) no_side ≡ false =
    ne_eqb _ _ (λ e. omega (arith, e, side, c.in-Some.ensures.1, c.requires.0.few, c.requires.1)) in
    c.arrived.ensures
    ∙ ap (arrived a.poly a.w.at) (c.other_link.ensures ∙ ap (λ (s : ℕ). other_link a.links.now s a.w.prev) side)
    ∙ ap (λ (t : Bool). cond t a.w (arrived a.poly a.w.at to)) (sym some)
