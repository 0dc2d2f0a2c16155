-- `index_all`, by the invariant `Indexing`.
use native.Mathlib.Omega.{arith}
use Prim.Native.Nat.{ℕ, ◌<◌}
use mathlib.Core.Path.{◌≡◌}
use lib.ListN.{length, take}
use Rattle.materials.specs.Materials.{value_at}
use Rattle.materials.specs.Steps.Listing.{Entered}
use Rattle.materials.proofs.listing.Indexing.{start, fits, marks, entry, there, one_more, ended}
use Rattle.materials.proofs.listing.index_all.Goals as goal

pub loop-p-init : goal.loop-p-init
loop-p-init c =
    let q = c.requires in
    start _ _ _ _ _ q.1 q.0.for_list

pub bounds-numbers-p : goal.bounds-numbers-p
bounds-numbers-p c =
    let in-numbers : c.loop-p.p < length c.args.numbers.now = omega (arith, c.requires.0.numbered) in
    omega (arith, in-numbers)

pub value_at-requires : goal.value_at-requires
value_at-requires c =
    let q = c.requires.0 in
    (q.given, q.few)

pub enter-count-requires : goal.enter-count-requires
enter-count-requires c =
    let in-numbers : c.loop-p.p < length c.args.numbers.now = omega (arith, c.requires.0.numbered) in
    let l = c.loop-p in
    let small : c.from-b.result < 256 = omega arith in
    let f = fits _ _ _ _ _ _ _ _ l.invariant in-numbers _ c.from-b.ensures small in
    let p = entry _ _ _ _ _ _ _ _ l.invariant in-numbers _ c.from-b.ensures small in
    let k = marks _ _ _ _ _ _ _ _ l.invariant in-numbers _ c.from-b.ensures small in
    (small, rw c.value_at.ensures f, rw c.value_at.ensures p, l.invariant.whole, k)

pub bounds-table-b : goal.bounds-table-b
bounds-table-b c =
    omega (arith, c.enter-count.auto.table, c.loop-p.invariant.whole)

pub overflow_sub-indices : goal.overflow_sub-indices
overflow_sub-indices c =
    let in-numbers : c.loop-p.p < length c.args.numbers.now = omega (arith, c.requires.0.numbered) in
    let n = c.enter-count in
    (there _ _ _ _ _ _ _ _ c.loop-p.invariant in-numbers _ c.from-b.ensures (omega arith) _ _ _ n.auto.table n.auto.list (rw c.value_at.ensures at n.ensures)).0

pub overflow_cast-indices : goal.overflow_cast-indices
overflow_cast-indices c =
    let in-numbers : c.loop-p.p < length c.args.numbers.now = omega (arith, c.requires.0.numbered) in
    let n = c.enter-count in
    omega (arith, there _ _ _ _ _ _ _ _ c.loop-p.invariant in-numbers _ c.from-b.ensures (omega arith) _ _ _ n.auto.table n.auto.list (rw c.value_at.ensures at n.ensures))

pub bounds-indices-p : goal.bounds-indices-p
bounds-indices-p c =
    omega (arith, c.loop-p.invariant.len, c.requires.0.for_indices)

pub loop-p-preserved : goal.loop-p-preserved
loop-p-preserved c =
    let number : ℕ = c.from-b.result in
    let entered : Entered number (value_at c.args.m c.args.mats.now number) c.loop-p.table c.enter-count.new.table (take c.loop-p.count c.loop-p.list) c.enter-count.new.list c.enter-count.result = rw c.value_at.ensures at c.enter-count.ensures in
    let in-numbers : c.loop-p.p < length c.args.numbers.now = omega (arith, c.requires.0.numbered) in
    let l = c.loop-p in
    let n = c.enter-count in
    let small : c.from-b.result < 256 = omega arith in
    let bounds = there _ _ _ _ _ _ _ _ l.invariant in-numbers _ c.from-b.ensures small _ _ _ n.auto.table n.auto.list entered in
    one_more _ _ _ _ _ _ _ _ l.invariant in-numbers _ c.from-b.ensures small _ _ _ n.auto.table n.auto.list entered _ (omega (arith, bounds)) (omega (arith, c.requires.0.for_indices))

pub returns : goal.returns
returns c =
    let e : c.loop-p.p ≡ c.args.n = omega arith in
    ended _ _ _ _ _ _ _ _ _ c.loop-p.invariant e
