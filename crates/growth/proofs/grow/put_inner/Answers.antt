-- `grow::put_inner` meets its contract: what the split and the row ensure.
use Rattle.growth.proofs.grow.put_inner.Goals as goal

pub returns : goal.returns
returns c =
    let d = c.divide-cut.ensures in (
      record {
        row_put = rw d.1 at c.put_row.ensures;
        groups = d.0.list;
        group_size = d.0.count;
        some = d.0.some;
        rest = d.0.rest;
      },
      d.2,
    )
