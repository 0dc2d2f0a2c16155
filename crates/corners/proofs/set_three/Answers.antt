-- `corners::set_three` meets its contract: three stores in a row are a run.
use lib.ListN.{length-set}
use Rattle.corners.proofs.CornerLaws.{three_set}
use native.Mathlib.Omega.{arith}
use Rattle.corners.proofs.set_three.Goals as goal

pub bounds-words-at-2 : goal.bounds-words-at-2
bounds-words-at-2 c = simp length-set (omega arith)

pub bounds-words-at-3 : goal.bounds-words-at-3
bounds-words-at-3 c = simp length-set (omega arith)

pub returns : goal.returns
returns c =
    let s = c.args in
    three_set s.words.now s.at s.a s.b s.c
