-- `count_all`, by the invariant `Counting`.
use native.Mathlib.Omega.{arith}
use Prim.Native.Nat.{ℕ, ◌<◌}
use mathlib.Core.Path.{◌≡◌, ap, ◌∙◌}
use lib.ListN.{length, take}
use Rattle.materials.specs.Materials.{value_at, values_of, list_of}
use Rattle.materials.specs.Steps.Listing.{Entered}
use Rattle.materials.proofs.listing.Indexing.{fits, marks, entry, count_start, count_more_lem}
use Rattle.materials.proofs.listing.count_all.Goals as goal

pub loop-p-init : goal.loop-p-init
loop-p-init c =
    let q = c.requires in
    count_start _ _ _ _ _ q.1 q.0.for_list

pub bounds-numbers-p : goal.bounds-numbers-p
bounds-numbers-p c =
    let in-numbers : c.loop-p.p < length c.args.numbers.now = omega (arith, c.requires.0.numbered) in
    omega (arith, in-numbers)

pub value_at-requires : goal.value_at-requires
value_at-requires c =
    let q = c.requires.0 in
    (q.given, q.few)

pub enter-count-requires : goal.enter-count-requires
enter-count-requires c =
    let in-numbers : c.loop-p.p < length c.args.numbers.now = omega (arith, c.requires.0.numbered) in
    let l = c.loop-p in
    let g = l.invariant.indexing in
    let small : c.from-b.result < 256 = omega arith in
    let f = fits _ _ _ _ _ _ _ _ g in-numbers _ c.from-b.ensures small in
    let p = entry _ _ _ _ _ _ _ _ g in-numbers _ c.from-b.ensures small in
    let k = marks _ _ _ _ _ _ _ _ g in-numbers _ c.from-b.ensures small in
    (small, rw c.value_at.ensures f, rw c.value_at.ensures p, g.whole, k)

pub loop-p-preserved : goal.loop-p-preserved
loop-p-preserved c =
    let number : ℕ = c.from-b.result in
    let entered : Entered number (value_at c.args.m c.args.mats.now number) c.loop-p.table c.enter-count.new.table (take c.loop-p.count c.loop-p.list) c.enter-count.new.list c.enter-count.result = rw c.value_at.ensures at c.enter-count.ensures in
    let in-numbers : c.loop-p.p < length c.args.numbers.now = omega (arith, c.requires.0.numbered) in
    let l = c.loop-p in
    let small : c.from-b.result < 256 = omega arith in
    let n = c.enter-count in
    count_more_lem _ _ _ _ _ _ _ l.invariant in-numbers _ c.from-b.ensures small _ _ _ n.auto.table n.auto.list entered (omega arith)

pub returns : goal.returns
returns c =
    let a = c.args in
    let l = c.loop-p in
    let end : l.p ≡ a.n = omega arith in
    l.invariant.indexing.counted ∙ ap (λ (k : ℕ). length (list_of (values_of a.m a.mats.now k a.numbers.now))) end
