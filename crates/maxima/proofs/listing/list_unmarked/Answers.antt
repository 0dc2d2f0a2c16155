-- `list_unmarked` meets its contract. The invariant is `Listing`: the unmarked of those passed, followed by what the list had.
use borrow.Author.Tests.{eq-eqb, ne_eqb}
use Rattle.maxima.proofs.ListingLaws.{unlisted, skip, write, all_listed}
use native.Mathlib.Omega.{arith}
use Rattle.maxima.proofs.listing.list_unmarked.Goals as goal
use Rattle.maxima.proofs.listing.list_unmarked.Goals.{then-marks-i-eq0, else-marks-i-eq0}

pub loop-i-init : goal.loop-i-init
loop-i-init c = unlisted _ _ _

pub returns : goal.returns
returns c = all_listed _ _ _ _ _ _ c.loop-i.invariant (omega arith)

pub loop-i-preserved : goal.loop-i-preserved
loop-i-preserved c =
    let l = c.loop-i in
    elim c.if-marks-i-eq0.branch [
      | then-marks-i-eq0 w ↦
          rw (w.list-is, w.count-is) (write _ _ _ _ _ _ l.invariant (omega arith) c.requires.1 (eq-eqb _ 0 w.if-marks-i-eq0.true))
      | else-marks-i-eq0 w ↦
          rw (w.list-is, w.count-is) (skip _ _ _ _ _ _ l.invariant (omega arith) c.requires.1 (ne_eqb _ 0 w.if-marks-i-eq0.false))
    ]
