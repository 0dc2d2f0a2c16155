-- `slices::hand_out` meets its contract: none, few or many positions.
use Rattle.base.specs.Lists.{up_from}
use mathlib.Core.Path.{sym, ap}
use Rattle.std.specs.Prelude.{ℕ}
use lib.Seq.{sets}
use Rattle.walk.proofs.slices.hand_out.Goals as goal

pub returns-then-n-eq0 : goal.returns-then-n-eq0
returns-then-n-eq0 c =
    let a = c.args in
    ap (λ (n : ℕ). sets a.out.now a.from (up_from a.first.0 n)) (sym c.if-n-eq0.true)

pub returns-then-n-le4 : goal.returns-then-n-le4
returns-then-n-le4 c = c.hand_few.ensures

pub returns : goal.returns
returns c = c.hand_many.ensures
