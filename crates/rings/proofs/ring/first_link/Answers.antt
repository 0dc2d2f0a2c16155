-- `ring::first_link` meets its contract: the link over the side before, or where it is none the side's own.
use mathlib.Core.Path.{sym, ap, ◌∙◌}
use mathlib.Core.Bool.{Bool, cond}
use Prim.Native.Nat.{ℕ}
use lib.Dec.{eqb}
use lib.ListN.{get_or}
use borrow.Author.Tests.{eq-eqb, ne_eqb}
use Rattle.corners.specs.Corners.{none, next_of}
use Rattle.rings.proofs.ring.first_link.Goals as goal

pub returns-then-link-eq65535 : goal.returns-then-link-eq65535
returns-then-link-eq65535 c =
    let a = c.args in
    let link : ℕ → ℕ = λ s. get_or a.links.now s 0 in
    let before = c.next_side-before.ensures.0 ∙ ap next_of c.next_side.ensures.0 in
    ap (λ (t : Bool). cond t (link a.s) (link (next_of (next_of a.s))))
    (sym (eq-eqb _ _ c.if-link-eq65535.true) ∙ ap (λ (k : ℕ). eqb (link k) none) before)

pub returns : goal.returns
returns c =
    let a = c.args in
    let link : ℕ → ℕ = λ s. get_or a.links.now s 0 in
    let before = c.next_side-before.ensures.0 ∙ ap next_of c.next_side.ensures.0 in
    ap link before
    ∙ ap (λ (t : Bool). cond t (link a.s) (link (next_of (next_of a.s))))
    (sym (ne_eqb _ _ c.if-link-eq65535.false) ∙ ap (λ (k : ℕ). eqb (link k) none) before)
