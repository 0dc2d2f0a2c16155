-- `read_rest`: what is read lies within the input.
use borrow.Author.Rules.{rules}
use mathlib.Core.Path.{sym}
use lib.Seq.{length-take-le}
use native.Mathlib.Omega.{arith}
use Rattle.prepare_run.proofs.read_rest.Goals as goal

pub shape_of-input : goal.shape_of-input
shape_of-input c = search rules

pub returns : goal.returns
returns c =
    let f = c.read_full in
    let pre = c.requires in (
      omega (arith, shape_of-input c, f.ensures, f.auto.buf, pre),
      sym (length-take-le _ _ (omega (arith, shape_of-input c, f.ensures, f.auto.buf, pre))),
    )
