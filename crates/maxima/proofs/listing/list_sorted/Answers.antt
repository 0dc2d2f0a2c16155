-- `list_sorted` meets its contract: what each call leaves is what the next asks (ListingLaws).
use mathlib.Core.Path.{sym, ap, ◌∙◌, subst}
use Rattle.base.specs.Lists.{Below}
use Rattle.shadows.specs.Maxima.{numbers}
use Rattle.maxima.proofs.ListingLaws.{numbers_below, sorted_below, all_kept}
use native.Mathlib.Omega.{arith}
use Rattle.maxima.proofs.listing.list_sorted.Goals as goal

pub sort-requires : goal.sort-requires
sort-requires c =
    let p = c.requires in
    let k = c.count_up in (
      omega (arith, k.auto.order, p.1, p.0.for_temp),
      p.0.table.size,
      subst (Below c.args.n) (sym (k.ensures ∙ ap numbers p.1)) (numbers_below c.args.n),
    )

pub mark_halves-requires : goal.mark_halves-requires
mark_halves-requires c =
    let p = c.requires in
    let k = c.count_up in
    let s = c.sort in
    record {
      table = p.0.table;
      mark = c.clear.ensures.size;
      below = sorted_below _ _ _ _ _ (k.ensures ∙ ap numbers p.1) s.ensures;
      room = omega (arith, s.auto.places, s.auto.temp, k.auto.order, p.1, p.0.for_temp);
    }

pub list_unmarked-requires : goal.list_unmarked-requires
list_unmarked-requires c =
    let p = c.requires.0 in
    (omega (arith, c.mark_halves.auto.marks, c.clear.ensures.size), p.for_list, p.table.few)

pub returns : goal.returns
returns c =
    let p = c.requires in
    all_kept _ _ _ _ _ _ _ _ _ _ p.0.table (c.count_up.ensures ∙ ap numbers p.1) c.sort.ensures c.clear.ensures
    c.mark_halves.ensures c.list_unmarked.ensures
