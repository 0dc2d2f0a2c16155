-- `quantise::inside` meets its contract: both comparisons hold.
use lib.Dec.{T}
use mathlib.Core.Path.{sym, subst}
use mathlib.Core.Bool.{and-eq-true_iff}
use lib.Ieee.{lt, neg}
use Rattle.records.specs.Steps.Cut.{edge}
use Rattle.records.proofs.quantise.inside.Goals as goal

pub returns : goal.returns
returns c =
    λ e.
    let x = c.args.x in
    let t = (and-eq-true_iff (lt (neg edge) x) (lt x edge)).0 e in
    (subst T (sym t.0) tt, subst T (sym t.1) tt)
