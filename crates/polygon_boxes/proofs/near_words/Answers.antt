-- `near_words` meets its contract: the vertex is there, so its three words are.
use Prim.Native.Nat.{◌/◌, ◌<◌}
use lib.ListN.{length}
use borrow.Author.Tests.{lt-ltb}
use Rattle.polygon_boxes.specs.Boxes.{vertex_words}
use native.Mathlib.Omega.{arith}
use Rattle.polygon_boxes.proofs.near_words.Goals as goal

pub returns : goal.returns
unfolding vertex_words
returns c =
    let there : c.args.i < length c.args.vertices.now / 3 = omega (arith, c.requires) in
    simp (lt-ltb _ _ there)
