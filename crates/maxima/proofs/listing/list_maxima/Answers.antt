-- `list_maxima` meets its contract: by the loop, where what it kept had room, else by sorting.
use mathlib.Core.Path.{sym}
use mathlib.Core.List.{◌++◌}
use lib.ListN.{drop}
use lib.Seq.{length-take-le, length_front}
use Rattle.maxima.proofs.Keeping.{written_out}
use native.Mathlib.Omega.{arith}
use Rattle.maxima.proofs.listing.list_maxima.Goals as goal

pub slice_bounds-gather-end-2 : goal.slice_bounds-gather-end-2
slice_bounds-gather-end-2 c =
    sym (length-take-le _ c.args.order.now (omega (arith, c.limit-most.ensures, c.requires.for_order)))

pub returns-in-Some : goal.returns-in-Some
returns-in-Some c =
    written_out _ c.gather.new.kept _ _ _ _ c.in-Some.ensures c.keep.ensures

pub slice_bounds-list_sorted-end-2 : goal.slice_bounds-list_sorted-end-2
slice_bounds-list_sorted-end-2 c =
    let l = length_front c.args.order.now c.gather.new.kept c.limit-most.result c.gather.auto.kept in
    sym (length-take-le _ _ (omega (arith, l, c.requires.for_order)))

pub list_sorted-requires : goal.list_sorted-requires
list_sorted-requires c =
    let l = length_front c.args.order.now c.gather.new.kept c.limit-most.result c.gather.auto.kept in
    let n = length-take-le c.args.n (c.gather.new.kept ++ drop c.limit-most.result c.args.order.now) (omega (arith, l, c.requires.for_order)) in (
      record {
        table = c.requires.table;
        for_order = omega (arith, n);
        for_temp = c.requires.for_temp;
        for_marks = c.requires.for_marks;
        for_list = c.requires.for_list;
      },
      n,
    )
