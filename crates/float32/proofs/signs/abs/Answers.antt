-- `signs::abs` meets its contract: what is below zero is negated, a zero is +0, and what is left has its sign clear.
use mathlib.Core.Path.{◌≡◌, refl, subst, sym, ◌∙◌}
use mathlib.Core.Bool.{Bool, true, false, cond}
use lib.Dec.{T}
use lib.IntN.{pos}
use lib.Ieee.{Float, binary32, eq, lt, fin, fits, of_bits}
use Rattle.float32.specs.Signs.{abs_of}
use Rattle.float32.proofs.SignLaws.{below_zero, at_zero, else_clear}
use Rattle.float32.proofs.signs.abs.Goals as goal

cleared : (x : Float) → T (fits binary32 x) → lt x (fin false 0 (pos 0)) ≡ false → cond (eq x (fin false 0 (pos 0))) (fin false 0 (pos 0)) x ≡ abs_of x
cleared x f l = go (eq x (fin false 0 (pos 0))) refl
  where
    go : (b : Bool) → eq x (fin false 0 (pos 0)) ≡ b → cond b (fin false 0 (pos 0)) x ≡ abs_of x
    go true e = at_zero x f e
    go false e = else_clear x l e

pub returns-then-x : goal.returns-then-x
unfolding of_bits
returns-then-x c = below_zero c.args.x c.if-x.true

pub returns-else-x : goal.returns-else-x
unfolding of_bits
returns-else-x c =
    c.zero_cleared-cleared.ensures ∙ cleared c.args.x (subst T (sym c.well_formed.0.1) tt) c.if-x.false
