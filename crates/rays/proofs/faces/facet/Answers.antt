-- `faces::facet` meets its contract: what the differences ensure, put together.
use Rattle.rays.proofs.faces.facet.Goals as goal

pub returns : goal.returns
returns c = λ i. record { corner = c.args.a; side1 = c.sub.ensures i; side2 = c.sub-2.ensures i }
