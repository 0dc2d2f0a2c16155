-- `slices::hand_many` meets its contract. The loop's invariant: the first i positions are stored.
use Rattle.base.proofs.StoreLaws.{up_stored}
use Rattle.std.specs.Prelude.{ℕ, ◌+◌, List, set}
use mathlib.Core.Path.{ap, ◌∙◌}
use Rattle.walk.proofs.slices.hand_many.Goals as goal

pub loop-i-preserved : goal.loop-i-preserved
loop-i-preserved c =
    let a = c.args in
    let i = c.loop-i.i in
    let stored = up_stored a.out.now a.from a.first.0 i in
    ap (λ (l : List ℕ). set l (a.from + i) (a.first.0 + i)) c.loop-i.invariant ∙ stored
