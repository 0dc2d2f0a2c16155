-- `slices::hand_few` meets its contract: each store is the next position, or the last one again.
use Rattle.walk.proofs.FewStores.{four_stored}
use Rattle.walk.proofs.slices.hand_few.Goals as goal

pub returns : goal.returns
returns c =
    let p = c.requires in
    four_stored c.args.out.now _ _ _ _ c.args.from c.args.first.0 c.args.n _ _ p.2 p.3
    c.min.ensures c.min-2.ensures
    c.put_one.ensures c.put_one-2.ensures c.put_one-3.ensures c.put_one-4.ensures
