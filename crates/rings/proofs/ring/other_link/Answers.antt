-- `ring::other_link` meets its contract: the link, or where it leads back the next side's.
use mathlib.Core.Path.{sym, ap, ◌∙◌}
use mathlib.Core.Bool.{Bool, cond}
use Prim.Native.Nat.{ℕ}
use lib.ListN.{get_or}
use borrow.Author.Tests.{eq-eqb, ne_eqb}
use Rattle.corners.specs.Corners.{next_of}
use Rattle.rings.proofs.ring.other_link.Goals as goal

pub returns-then-link-prev : goal.returns-then-link-prev
returns-then-link-prev c =
    let a = c.args in
    let link : ℕ → ℕ = λ s. get_or a.links.now s 0 in
    ap link c.next_side-t.ensures.0
    ∙ ap (λ (t : Bool). cond t (link (next_of a.s)) (link a.s)) (sym (eq-eqb _ _ c.if-link-prev.true))

pub returns : goal.returns
returns c =
    let a = c.args in
    let link : ℕ → ℕ = λ s. get_or a.links.now s 0 in
    ap (λ (t : Bool). cond t (link (next_of a.s)) (link a.s)) (sym (ne_eqb _ _ c.if-link-prev.false))
