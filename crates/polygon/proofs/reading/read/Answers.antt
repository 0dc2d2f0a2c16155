-- `reading::read` meets its contract: by the outcomes of the two checks.
use mathlib.Core.Path.{ap, ◌∙◌}
use Prim.Native.Nat.{◌≤◌, ◌<◌}
use borrow.Author.Tests.{lt-ltb, le-ltb}
use Rattle.polygon.specs.Polygons.{kind_at}
use Rattle.polygon.specs.Answers.{read_of}
use Rattle.std.proofs.Common.{Ok}
use native.Mathlib.Omega.{arith}
use Rattle.polygon.proofs.reading.read.Goals as goal

pub returns-then-bytes-lt16 : goal.returns-then-bytes-lt16
unfolding read_of
returns-then-bytes-lt16 c = simp (lt-ltb _ _ c.if-bytes-lt16.true)

pub returns-then-kind_at-gt4 : goal.returns-then-kind_at-gt4
unfolding read_of
returns-then-kind_at-gt4 c =
    let e = c.kind_at.ensures in
    let above : 4 < kind_at c.args.bytes.now 0 = omega (arith, c.if-kind_at-gt4.true) in
    simp (le-ltb _ _ c.if-bytes-lt16.false, lt-ltb _ _ above)

pub returns : goal.returns
unfolding read_of
returns c =
    let e = c.kind_at.ensures in
    let known : kind_at c.args.bytes.now 0 ≤ 4 = omega (arith, c.if-kind_at-gt4.false) in
    ap Ok c.polygon_at.ensures ∙ simp (le-ltb _ _ c.if-bytes-lt16.false, le-ltb _ _ known)
