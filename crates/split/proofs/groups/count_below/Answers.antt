-- `groups::count_below` meets its contract. The loop's invariant: the counts of the rest added to those so far are the whole counts.
use native.Mathlib.Omega.{arith}
use Prim.Native.Nat.{◌+◌, ◌≤◌}
use mathlib.Core.Path.{◌≡◌, ap, ◌∙◌}
use lib.ListN.{length, get_or, drop}
use lib.Ieee.{lt, neg}
use Rattle.base.specs.Lists.{one_if}
use Rattle.split.specs.declared.groups.Counts.{Counts}
use Rattle.entries.specs.declared.average.Lanes.{Lanes}
use Rattle.entries.specs.Boxes.{box_at}
use Rattle.split.specs.Rule.{below, above}
use Rattle.split.specs.Steps.Groups.{count_more}
use Rattle.entries.proofs.Places.{taken, finished, next_within}
use Rattle.split.proofs.LaneLaws.{lane_above}
use Rattle.split.proofs.Counting.{onto, onto_more, onto_none, none_onto, small}
use Rattle.split.proofs.groups.count_below.Goals as goal

pub overflow_add-counts : goal.overflow_add-counts
overflow_add-counts c =
    let few : let n = c.loop-p.counts in let m = length c.args.places.now in (n.x ≤ m) × (n.y ≤ m) × (n.z ≤ m) × (n.over ≤ m) =
    let g = c.args in
    small (box_at g.entries.now) g.avg _ g.places.now _ _ c.loop-p.invariant in
    omega (arith, c.one_if_below.ensures.1, few.0)

pub overflow_add-counts-in-loop-p : goal.overflow_add-counts-in-loop-p
overflow_add-counts-in-loop-p c =
    let few : let n = c.loop-p.counts in let m = length c.args.places.now in (n.x ≤ m) × (n.y ≤ m) × (n.z ≤ m) × (n.over ≤ m) =
    let g = c.args in
    small (box_at g.entries.now) g.avg _ g.places.now _ _ c.loop-p.invariant in
    omega (arith, c.one_if_below-in-loop-p.ensures.1, few.1)

pub overflow_add-counts-in-loop-p-2 : goal.overflow_add-counts-in-loop-p-2
overflow_add-counts-in-loop-p-2 c =
    let few : let n = c.loop-p.counts in let m = length c.args.places.now in (n.x ≤ m) × (n.y ≤ m) × (n.z ≤ m) × (n.over ≤ m) =
    let g = c.args in
    small (box_at g.entries.now) g.avg _ g.places.now _ _ c.loop-p.invariant in
    omega (arith, c.one_if_below-in-loop-p-2.ensures.1, few.2)

pub overflow_add-counts-in-loop-p-3 : goal.overflow_add-counts-in-loop-p-3
overflow_add-counts-in-loop-p-3 c =
    let few : let n = c.loop-p.counts in let m = length c.args.places.now in (n.x ≤ m) × (n.y ≤ m) × (n.z ≤ m) × (n.over ≤ m) =
    let g = c.args in
    small (box_at g.entries.now) g.avg _ g.places.now _ _ c.loop-p.invariant in
    omega (arith, c.one_if_below-in-loop-p-3.ensures.1, few.3)

pub loop-p-preserved : goal.loop-p-preserved
unfolding below above
loop-p-preserved c =
    let l = c.loop-p in
    let g = c.args in
    let at = box_at g.entries.now in
    let ps = g.places.now in
    let n = l.counts in
    let below-x = c.one_if_below in
    let below-y = c.one_if_below-in-loop-p in
    let below-z = c.one_if_below-in-loop-p-2 in
    let counts = c.one_if_below-in-loop-p-3 in
    let inside = next_within _ _ ps _ n l.p-index l.invariant (omega arith) in
    let lanes = c.centre_at-c.ensures ∙ c.requires.2.lanes (get_or ps l.p-index 0) inside in
    let x = below-x.ensures.0 ∙ ap (λ (v : Lanes). one_if (lt v.x g.avg.x)) lanes in
    let y = below-y.ensures.0 ∙ ap (λ (v : Lanes). one_if (lt v.y g.avg.y)) lanes in
    let z = below-z.ensures.0 ∙ ap (λ (v : Lanes). one_if (lt v.z g.avg.z)) lanes in
    let w = counts.ensures.0 ∙ ap (λ (v : Lanes). one_if (lt v.w (neg g.avg.x))) lanes ∙ ap one_if (lane_above _ g.avg.x) in
    let step : record { x = n.x + below-x.result; y = n.y + below-y.result; z = n.z + below-z.result; over = n.over + counts.result }
    ≡ count_more at g.avg n (get_or ps l.p-index 0) =
    λ i. record { x = n.x + x i; y = n.y + y i; z = n.z + z i; over = n.over + w i } in
    taken (onto at g.avg) _ ps _ n _ l.p-index l.invariant (omega arith)
    (ap (λ (k : Counts). onto at g.avg k (drop (l.p-index + 1) ps)) step ∙ onto_more at g.avg n (get_or ps l.p-index 0) (drop (l.p-index + 1) ps))

pub returns : goal.returns
returns c =
    let l = c.loop-p in
    let g = c.args in
    let at = box_at g.entries.now in
    onto_none at g.avg l.counts
    ∙ finished (onto at g.avg) _ g.places.now _ l.counts l.p-index l.invariant (omega arith)
    ∙ none_onto at g.avg g.places.now
