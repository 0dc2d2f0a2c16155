-- `list_octants`: the keys, then each list, then how many each has.
use Rattle.octants.proofs.ListLaws.{wrote}
use native.Mathlib.Omega.{arith}
use Rattle.octants.proofs.lists.list_octants.Goals as goal

pub list_each-requires : goal.list_each-requires
list_each-requires c =
    let p = c.requires in
    let w = p.0 in (
      record {
        work = record {
          few = w.few;
          for_keys = omega (arith, w.for_keys, c.put_keys.auto.keys);
          for_rows = w.for_rows;
          for_order = w.for_order;
          for_temp = w.for_temp;
          for_marks = w.for_marks;
        };
        words = c.args.vertices.now;
        keyed = c.put_keys.ensures;
      },
      p.2,
      omega arith,
    )

pub returns : goal.returns
returns c =
    wrote _ _ _ _ _ _ (c.list_each.ensures c.args.vertices.now c.put_keys.ensures) c.counts_of.ensures
