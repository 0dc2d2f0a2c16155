-- `list_each` meets its contract. The invariant is `Listing`: the lists of the octants passed stand in their parts.
use Prim.Native.Nat.{◌+◌, ◌*◌, ◌-◌}
use mathlib.Core.Path.{refl}
use lib.ListN.{length, drop, length-drop}
use lib.Seq.{length-take-le}
use Rattle.octants.proofs.ListLaws.{none_listed, in_range, one_listed, written_few}
use native.Mathlib.Omega.{arith}
use Rattle.octants.proofs.lists.list_each.Goals as goal

pub loop-k-init : goal.loop-k-init
loop-k-init c = none_listed _ _ _ _

pub overflow_mul-at : goal.overflow_mul-at
overflow_mul-at c = omega (arith, in_range c.args.n c.loop-k.k (8 * c.args.n) (omega arith) (omega arith), c.requires.0.work.few)

pub overflow_add-part : goal.overflow_add-part
overflow_add-part c = omega (arith, in_range c.args.n c.loop-k.k (8 * c.args.n) (omega arith) (omega arith), c.requires.0.work.few)

pub offset_bounds-lists-at : goal.offset_bounds-lists-at
offset_bounds-lists-at c = omega (arith, in_range c.args.n c.loop-k.k (8 * c.args.n) (omega arith) (omega arith), c.requires.0.work.few)

pub slice_bounds-part-end : goal.slice_bounds-part-end
slice_bounds-part-end c =
    omega (arith, in_range c.args.n c.loop-k.k (length c.args.lists.now) (omega arith) c.requires.1, c.loop-k.invariant.len)

pub list_octant-count-requires : goal.list_octant-count-requires
list_octant-count-requires c =
    let l = c.loop-k in
    let p = c.requires.0 in
    let at = l.k * c.args.n in
    let r = in_range c.args.n l.k (length c.args.lists.now) (omega arith) c.requires.1 in
    let m = length-take-le (at + c.args.n - at) (drop at l.lists) (omega (arith, r, length-drop at l.lists, l.invariant.len)) in (
      record {
        work = record {
          few = p.work.few;
          for_keys = p.work.for_keys;
          for_rows = omega (arith, p.work.for_rows, l.auto.rows);
          for_order = omega (arith, p.work.for_order, l.auto.order);
          for_temp = omega (arith, p.work.for_temp, l.auto.temp);
          for_marks = omega (arith, p.work.for_marks, l.auto.marks);
        };
        words = p.words;
        keyed = p.keyed;
      },
      omega (arith, m),
    )

pub overflow_cast-counts : goal.overflow_cast-counts
overflow_cast-counts c =
    let l = c.loop-k in
    let p = c.requires.0 in
    let o = c.list_octant-count in
    let at = l.k * c.args.n in
    let r = in_range c.args.n l.k (length c.args.lists.now) (omega arith) c.requires.1 in
    let m = length-take-le (at + c.args.n - at) (drop at l.lists) (omega (arith, r, length-drop at l.lists, l.invariant.len)) in
    omega (arith, written_few _ _ _ _ (o.ensures p.words p.keyed) o.auto.list, m, p.work.few)

pub loop-k-preserved : goal.loop-k-preserved
loop-k-preserved c =
    let l = c.loop-k in
    let o = c.list_octant-count in
    let r = in_range c.args.n l.k (length c.args.lists.now) (omega arith) c.requires.1 in
    one_listed c.args.n _ _ _ _ l.k (l.k * c.args.n + c.args.n - l.k * c.args.n) _ o.result _ l.invariant (omega arith) r (omega arith)
    (omega (arith, l.auto.counts, c.requires.2)) o.auto.list refl o.ensures
