-- `vertex_words` meets its contract: a vertex is there where its three words are.
use Prim.Native.Nat.{◌/◌, ◌≤◌}
use lib.ListN.{length}
use borrow.Author.Tests.{le-ltb}
use Rattle.polygon_boxes.specs.Boxes.{vertex_words}
use native.Mathlib.Omega.{arith}
use Rattle.polygon_boxes.proofs.vertex_words.Goals as goal

pub returns-else-i-vertices : goal.returns-else-i-vertices
unfolding vertex_words
returns-else-i-vertices c =
    let s = c.args in
    let past : length s.vertices.now / 3 ≤ s.i = omega (arith, c.if-i-vertices.false) in
    simp (le-ltb _ _ past)
