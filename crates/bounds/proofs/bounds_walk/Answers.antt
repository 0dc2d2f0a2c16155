-- `bounds_walk` meets its contract: what the walk ensures, with the number for its answer (WalkLaws).
use Rattle.answers.proofs.WalkLaws.{walk_answered_over}
use lib.ListN.{length}
use Rattle.walk_steps.specs.declared.state.Sizes.{Sizes}
use Rattle.walk.specs.Walks.{walk_of}
use Rattle.bounds.proofs.bounds_walk.Goals as goal

pub returns : goal.returns
returns c =
    let a = c.args in
    walk_answered_over
    (λ (s : Sizes). walk_of a.query a.cen a.inverse s a.node_bytes.now a.tree_bytes.now (length a.out.now))
    _ _ _ _ _ _ c.sizes-sizes.ensures c.walk_bvh.ensures c.walk_answer.ensures
