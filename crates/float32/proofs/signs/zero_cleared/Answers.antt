-- `signs::zero_cleared` meets its contract: each arm is the definition's, by the test.
use mathlib.Core.Path.{sym, ap}
use mathlib.Core.Bool.{Bool, false, cond}
use lib.IntN.{pos}
use lib.Ieee.{of_bits, fin}
use Rattle.float32.proofs.signs.zero_cleared.Goals as goal

pub returns-then-x : goal.returns-then-x
unfolding of_bits
returns-then-x c = sym (ap (λ (b : Bool). cond b (fin false 0 (pos 0)) c.args.x) c.if-x.true)

pub returns-else-x : goal.returns-else-x
unfolding of_bits
returns-else-x c = sym (ap (λ (b : Bool). cond b (fin false 0 (pos 0)) c.args.x) c.if-x.false)
