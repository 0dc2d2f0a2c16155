-- `put_tree` meets its contract: what `put_boxed` ensures of the tree's fields.
use mathlib.Core.Path.{ap₂, ◌∙◌}
use lib.IntN.{ℤ}
use lib.Seq.{sets}
use Rattle.records.specs.Records.{boxed_bytes, tree_bytes}
use Rattle.base.proofs.ShortLaws.{same_short}
use Rattle.records.proofs.put_tree.Goals as goal

pub returns : goal.returns
unfolding tree_bytes
returns c =
    let a = c.args in
    let t = a.t in
    c.put_boxed.ensures
    ∙ ap₂ (λ (first second : ℤ). sets a.out.now a.at (boxed_bytes t.min t.max first second))
    (same_short t.node_index1 c.struct_told-2-1.given.1.1.0.1)
    (same_short t.node_index2 c.struct_told-2-1.given.1.1.1.0.1)
