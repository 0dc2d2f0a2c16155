-- `quantise::all_inside` meets its contract: each of the six is inside.
use mathlib.Core.Bool.{and-eq-true_iff}
use Rattle.records.proofs.quantise.all_inside.Goals as goal

pub returns : goal.returns
returns c =
    λ e.
    let t = (and-eq-true_iff _ _).0 e in
    let u = (and-eq-true_iff _ _).0 t.0 in
    let v = (and-eq-true_iff _ _).0 u.0 in
    let w = (and-eq-true_iff _ _).0 u.1 in
    let y = (and-eq-true_iff _ _).0 t.1 in (
      (
        c.inside.ensures v.0,
        c.inside-2.ensures v.1,
        c.inside-3.ensures w.0,
      ),
      (c.inside-4.ensures w.1, c.inside-5.ensures y.0, c.inside-6.ensures y.1),
    )
