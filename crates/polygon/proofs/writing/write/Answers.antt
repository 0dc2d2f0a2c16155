-- `writing::write` meets its contract: by the outcome of the check.
use native.Mathlib.Omega.{arith}
use mathlib.Core.Path.{◌∙◌}
use borrow.Author.Tests.{lt-ltb, le-ltb}
use Rattle.base.proofs.StoreLaws.{sets_over}
use Rattle.polygon.specs.Polygons.{polygon_bytes}
use Rattle.polygon.proofs.Sizes.{polygon_bytes_lem}
use Rattle.polygon.proofs.writing.write.Goals as goal

pub returns-then-out-lt16 : goal.returns-then-out-lt16
returns-then-out-lt16 c =
    let short = lt-ltb _ _ c.if-out-lt16.true in
    record { answer = simp short; bytes = simp short }

pub returns : goal.returns
returns c =
    let enough = c.if-out-lt16.false in
    let room = le-ltb _ _ enough in
    let p = c.args.p in
    record {
      answer = simp room;
      bytes = c.put_polygon.ensures ∙ sets_over (polygon_bytes p) _ (omega (arith, (polygon_bytes_lem p).size, enough)) ∙ simp room;
    }
