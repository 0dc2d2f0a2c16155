-- `scale::axis_scale` meets its contract: what the three calls ensure is the half extent, and the units are made of it.
use mathlib.Core.Path.{ap, ap₂, ◌∙◌}
use lib.Ieee.{Float}
use Rattle.float32.specs.Extremes.{vmax_of}
use Rattle.records.specs.Axis.{centre, quantum_of, inverse_of}
use Rattle.records.proofs.scale.axis_scale.Goals as goal

pub returns : goal.returns
returns c =
    let a = c.args in
    ap (λ (q : Float). record { cen = centre a.lo a.hi; inverse = inverse_of q; quantum = quantum_of q })
    (c.vmax-extent.ensures ∙ ap₂ vmax_of c.abs.ensures c.abs-2.ensures)
