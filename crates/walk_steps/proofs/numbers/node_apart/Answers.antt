-- `numbers::node_apart` meets its contract: the box is that of the record, and the numbers are read again.
use mathlib.Core.Path.{◌≡◌, ap, ◌∙◌}
use Prim.Native.Nat.{◌+◌}
use native.Mathlib.Omega.{arith}
use Rattle.records.specs.Shorts.{short_at}
use Rattle.walk_steps.proofs.Shorts.{same}
use Rattle.walk_steps.proofs.numbers.node_apart.Goals as goal

pub returns : goal.returns
returns c =
    let numbers = c.numbers_at-m in
    let read = c.node_at-n in
    let a = c.args in
    let last : a.at + 12 + 2 ≡ a.at + 14 = omega arith in
    λ i. record {
      min = (read.ensures i).min;
      max = (read.ensures i).max;
      item_id = (same numbers.result.first c.struct_told-1.given.0.1 ∙ numbers.ensures.0) i;
      item_count =
          (same numbers.result.second c.struct_told-1.given.1.0.1 ∙ numbers.ensures.1 ∙ ap (short_at a.bytes.now) last) i;
    }
