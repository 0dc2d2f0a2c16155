-- `rows::facet_at` meets its contract: what the three columns ensure, put together.
use Rattle.rays.proofs.rows.facet_at.Goals as goal

pub returns : goal.returns
returns c = λ i. record { corner = c.column_at.ensures i; side1 = c.column_at-2.ensures i; side2 = c.column_at-3.ensures i }
