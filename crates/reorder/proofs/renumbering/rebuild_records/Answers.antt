-- `rebuild_records` meets its contract: the lookup that is made is the order's, and by it the records are written.
use mathlib.Core.Path.{sym, ap, ◌∙◌}
use mathlib.Core.List.{List}
use Prim.Native.Nat.{ℕ}
use lib.ListN.{take}
use lib.Seq.{length-take-le}
use Rattle.base.specs.Lists.{over}
use Rattle.reorder.specs.Reordering.{rebuilt_records}
use Rattle.reorder.proofs.RecordLaws.{reorderable}
use native.Mathlib.Omega.{arith}
use Rattle.reorder.proofs.renumbering.rebuild_records.Goals as goal

pub slice_bounds-reorder-end-2 : goal.slice_bounds-reorder-end-2
slice_bounds-reorder-end-2 c =
    let t = c.fill_lookup in
    sym (length-take-le c.args.n t.new.lookup (omega (arith, t.auto.lookup, c.requires.lookup_room)))

pub reorder-requires : goal.reorder-requires
reorder-requires c =
    reorderable _ _ c.args.lookup.now _ _ _ c.requires c.fill_lookup.ensures

pub returns : goal.returns
returns c =
    let a = c.args in
    c.reorder.ensures
    ∙ ap (λ (l : List ℕ). over (rebuilt_records a.n (take a.n a.order.now) l a.polygons.now) a.out.now) c.fill_lookup.ensures
