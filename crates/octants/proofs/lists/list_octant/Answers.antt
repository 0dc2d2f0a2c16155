-- `list_octant`: the rows, and their list.
use Rattle.octants.proofs.PartLaws.{rows_of, octant_written}
use native.Mathlib.Omega.{arith}
use Rattle.octants.proofs.lists.list_octant.Goals as goal

pub list_maxima-requires : goal.list_maxima-requires
list_maxima-requires c =
    let p = c.requires in
    let r = c.lay_rows in
    record {
      table = rows_of _ _ _ _ (r.ensures p.0.words p.0.keyed) p.0.work.few (omega (arith, r.auto.rows, p.0.work.for_rows));
      for_order = p.0.work.for_order;
      for_temp = p.0.work.for_temp;
      for_marks = p.0.work.for_marks;
      for_list = p.1;
    }

pub returns : goal.returns
returns c =
    λ ws k. octant_written _ ws _ _ (c.lay_rows.ensures ws k) _ _ _ c.list_maxima.ensures
