-- `put_node` meets its contract: what `put_boxed` ensures of the node's fields.
use mathlib.Core.Path.{ap₂, ◌∙◌}
use lib.IntN.{ℤ}
use lib.Seq.{sets}
use Rattle.records.specs.Records.{boxed_bytes, node_bytes}
use Rattle.base.proofs.ShortLaws.{same_short}
use Rattle.records.proofs.put_node.Goals as goal

pub returns : goal.returns
unfolding node_bytes
returns c =
    let a = c.args in
    let n = a.n in
    c.put_boxed.ensures
    ∙ ap₂ (λ (first second : ℤ). sets a.out.now a.at (boxed_bytes n.min n.max first second))
    (same_short n.item_id c.struct_told-2-1.given.1.1.0.1)
    (same_short n.item_count c.struct_told-2-1.given.1.1.1.0.1)
