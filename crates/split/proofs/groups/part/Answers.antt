-- `groups::part` meets its contract: where none is above all are in the second group, else the groups are parted and united.
use native.Mathlib.Omega.{arith}
use Prim.Native.Nat.{ℕ}
use mathlib.Core.Bool.{Bool, not}
use mathlib.Core.List.{List}
use Rattle.base.specs.Lists.{sift}
use Rattle.base.proofs.ListLaws.{length_both}
use Rattle.entries.specs.Boxes.{box_at}
use Rattle.split.specs.Rule.{above}
use Rattle.split.proofs.Steps.{none_same, parted_united, parted_same, nowhere_united}
use Rattle.split.proofs.groups.part.Goals as goal

pub returns-then-seen_none_above : goal.returns-then-seen_none_above
returns-then-seen_none_above c =
    let test_of : ℕ → Bool = above (box_at c.args.entries.now) c.args.avg c.args.axis in (
      nowhere_united _ c.args.places.now test_of c.requires.0 (c.seen_none_above.ensures c.if-seen_none_above.true),
      none_same c.args.places.now _ _,
    )

pub returns : goal.returns
returns c =
    let test_of : ℕ → Bool = above (box_at c.args.entries.now) c.args.avg c.args.axis in
    let u = c.unite in
    let p = c.partition-k in
    let at = box_at c.args.entries.now in
    let ps : List ℕ = c.args.places.now in
    let test = test_of in
    let total = length_both test ps in
    let seen = c.seen_above-seen in
    let first =
    parted_united at ps test p.new.places p.new.temp u.new.places p.result u.result p.auto.places p.ensures (u.ensures at) in
    let same = c.unmoved.ensures at (sift test ps) (sift (λ q. not (test q)) ps) p.ensures.count (omega (arith, p.ensures.count, p.auto.places)) in
    (first, parted_same at ps test u.new.places u.result seen.result c.unmoved.result seen.ensures first same)
