-- `faults::sound` meets its contract: the word it compares with is that of 2^-100.
use Rattle.std.specs.Prelude.{◌≡◌, true, false}
use mathlib.Core.Path.{sym, ap, ◌∙◌}
use lib.Ieee.{Float, of_bits, le, eq}
use Rattle.base.proofs.Truth.{or_yes, or_no}
use Rattle.records.specs.Axis.{smallest, nought}
use Rattle.tree.proofs.premises.Powers.{at_least}
use Rattle.tree.specs.premises.Faults.{sound}
use Rattle.tree.proofs.premises.faults.sound.Goals as goal

pub returns-then-q : goal.returns-then-q
unfolding sound of_bits
returns-then-q c =
    let q = c.args.q in
    let e : eq q nought ≡ true = c.if-q.true in
    sym (or_yes (le smallest q) e)

pub returns : goal.returns
unfolding sound of_bits
returns c =
    let q = c.args.q in
    let e : eq q nought ≡ false = c.if-q.false in
    ap (λ (v : Float). le v q) c.value.ensures ∙ at_least q ∙ sym (or_no (le smallest q) e)
