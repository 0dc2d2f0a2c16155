-- `pair::build_and_walk` meets its contract: what its two calls promise, put together (Pairing).
use Rattle.std.proofs.Common.{◌≡◌, Err, rules}
use Rattle.tree.proofs.pair.Pairing.{paired, unpaired}
use Rattle.tree.proofs.pair.build_and_walk.Goals as goal

pub returns-in_err-tree : goal.returns-in_err-tree
returns-in_err-tree c =
    let e : c.from_residual.result ≡ Err c.in_err-tree.field-0.0 = search rules in
    rw e (unpaired _ _ _ _ _ _ _ _ _ c.build_core.ensures c.in_err-tree.was)

pub returns : goal.returns
returns c = paired _ _ _ _ _ _ _ _ _ _ _ _ _ c.build_core.ensures c.in_ok-tree.was c.item_count.ensures c.walk_bvh-walked.ensures
