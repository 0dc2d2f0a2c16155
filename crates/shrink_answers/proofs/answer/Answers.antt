-- `answer` meets its contract: the cases of Ok by those of the enum, and a refusal by its number.
use Prim.Native.Nat.{ℕ}
use mathlib.Core.Path.{ap, ◌∙◌}
use Rattle.shrink_answers.specs.Interface.{without}
use Rattle.shrink_answers.proofs.answer.Goals as goal

pub returns-in-Ok : goal.returns-in-Ok
returns-in-Ok c = rw c.in-Ok.is c.shrunk.ensures

pub returns-in-Err : goal.returns-in-Err
returns-in-Err c = rw c.in-Err.is (c.without.ensures ∙ ap (λ (n : ℕ). without n 0) c.refusal_number.ensures)
