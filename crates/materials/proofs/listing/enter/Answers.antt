-- `enter`: the three ways through it.
use mathlib.Core.Path.{sym, ◌∙◌}
use lib.Seq.{length-take-le}
use Rattle.materials.proofs.listing.Entering.{already, found, new}
use native.Mathlib.Omega.{arith}
use Rattle.materials.proofs.listing.enter.Goals as goal

pub returns-then-table-b-ne0 : goal.returns-then-table-b-ne0
returns-then-table-b-ne0 c =
    let p = c.requires in already _ _ _ _ _ p.1 p.2 c.if-table-b-ne0.true p.4

pub returns-in_default : goal.returns-in_default
returns-in_default c =
    let p = c.requires in
    let last = sym (length-take-le _ _ p.1.inside) ∙ sym c.in_default.ensures in
    new _ _ _ _ _ p.1 p.0 p.3 p.4 _ last _ c.bucket.ensures.0 (omega arith)

pub returns : goal.returns
returns c =
    let p = c.requires in
    found _ _ _ _ _ p.1 p.0 p.3 p.4 _ c.in-Some.ensures.0 (omega (arith, c.in-Some.ensures.1, length-take-le c.args.count c.args.list.now p.1.inside))
