-- `near_at` reads what `near_at` says.
use Rattle.octants.specs.Steps.Parts.{near_at}
use Rattle.far_order.specs.Rows.{x_at, y_at}
use Rattle.octants.proofs.laying.near_at.Goals as goal

pub returns : goal.returns
unfolding near_at
returns c =
    let a = c.args in
    λ i. record { x = x_at a.rows.now a.p; y = y_at a.n a.rows.now a.p; z = c.turned.ensures i }
