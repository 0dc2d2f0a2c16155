-- `ring::next_side` meets its contract: each arm by its test.
use mathlib.Core.Path.{◌∙◌, ap}
use Prim.Native.Nat.{ℕ, ◌/◌}
use Rattle.sides.proofs.SideLaws.{leads_on, leads_back}
use Rattle.rings.proofs.SideLaws.{next_same}
use Rattle.rings.proofs.ring.next_side.Goals as goal

pub returns-then-s-eq2 : goal.returns-then-s-eq2
returns-then-s-eq2 c =
    let s = c.args.s in
    let is = leads_back s c.if-s-eq2.true in
    (is, ap (λ (k : ℕ). k / 3) is ∙ next_same s)

pub returns-else-s-eq2 : goal.returns-else-s-eq2
returns-else-s-eq2 c =
    let s = c.args.s in
    let is = leads_on s c.if-s-eq2.false in
    (is, ap (λ (k : ℕ). k / 3) is ∙ next_same s)
