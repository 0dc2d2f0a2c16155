-- `ordinary::ordinary` meets its contract: Build's two refusals, else the judgement (Judging).
use mathlib.Core.Path.{sym}
use Rattle.std.specs.Prelude.{◌*◌}
use lib.Seq.{length-take-le}
use Rattle.tree.proofs.premises.Judging.{too_many, too_short, read}
use native.Mathlib.Omega.{arith}
use Rattle.tree.proofs.premises.ordinary.ordinary.Goals as goal

pub returns-then-n-gt32767 : goal.returns-then-n-gt32767
returns-then-n-gt32767 c = too_many _ _ _ c.if-n-gt32767.true

pub returns-then-entries-words : goal.returns-then-entries-words
returns-then-entries-words c = too_short _ _ _ c.if-n-gt32767.false c.if-entries-words.true

pub slice_bounds-judge-end : goal.slice_bounds-judge-end
slice_bounds-judge-end c = sym (length-take-le _ _ c.if-entries-words.false)

pub judge-requires : goal.judge-requires
judge-requires c =
    let a = c.args in
    (omega (arith, length-take-le (7 * a.n) a.entries.now c.if-entries-words.false), c.if-n-gt32767.false)

pub returns : goal.returns
returns c = read _ _ _ _ c.if-n-gt32767.false c.if-entries-words.false c.judge.ensures
