-- `average::put_centres` meets its contract. The loop's invariant: the centres of the entries that are passed are stored.
use Prim.Native.Nat.{◌+◌}
use mathlib.Core.List.{List}
use lib.Ieee.{Float}
use mathlib.Core.Path.{subst, sym, ap, ◌∙◌}
use native.Mathlib.Omega.{arith}
use Rattle.math.specs.Vec3s.{add_of, scale_of}
use Rattle.math.specs.Transform.{half}
use Rattle.entries.specs.declared.boxes.Corners.{Corners}
use Rattle.entries.proofs.CentreLaws.{in_a_row, Storing, one_more}
use Rattle.entries.proofs.average.put_centres.Goals as goal

pub loop-i-preserved : goal.loop-i-preserved
loop-i-preserved c =
    let l = c.loop-i in
    let ws = c.args.entries.now in
    let v = c.centre-c.result in
    let is = c.centre-c.ensures ∙ ap (λ (b : Corners). scale_of (add_of b.low b.high) half) c.corners_at.ensures in
    let e = in_a_row l.centres l.i v ∙ sym c.put_centre.ensures in
    subst (λ (cs : List Float). Storing ws c.args.centres.now cs (l.i + 1)) e
    (one_more ws c.args.centres.now l.centres l.i l.invariant c.requires.0 v (omega arith) is)
