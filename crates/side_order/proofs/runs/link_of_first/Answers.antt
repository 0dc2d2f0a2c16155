-- `link_of_first`: the next side's polygon, if there is a next side and it has the same key.
use native.Mathlib.Omega.{arith}
use Prim.Native.Nat.{◌+◌}
use mathlib.Core.Path.{sym, ◌∙◌}
use Rattle.sides.specs.Steps.Grouped.{key_in}
use Rattle.sides.proofs.KeyedLaws.{keyed_at}
use Rattle.sides.proofs.LinkLaws.{alone, with_next, without_next}
use Rattle.side_order.proofs.runs.link_of_first.Goals as goal

pub key_at-requires : goal.key_at-requires
key_at-requires c =
    keyed_at _ _ (c.args.i + 1) c.requires.0 c.if-next-sides.true

pub key_at-requires-then-next-sides : goal.key_at-requires-then-next-sides
key_at-requires-then-next-sides c =
    keyed_at _ _ c.args.i c.requires.0 c.requires.1

pub returns-then-key_at : goal.returns-then-key_at
returns-then-key_at c =
    let s = c.args in
    let same = sym c.key_at.ensures.0 ∙ c.if-key_at.true ∙ c.key_at-then-next-sides.ensures.0 in
    c.polygon_of.ensures ∙ with_next (key_in s.keys.now) s.sides.now s.i c.if-next-sides.true same

pub returns-else-key_at : goal.returns-else-key_at
returns-else-key_at c =
    let s = c.args in
    without_next (key_in s.keys.now) s.sides.now s.i c.if-next-sides.true
    (λ e. c.if-key_at.false (c.key_at.ensures.0 ∙ e ∙ sym c.key_at-then-next-sides.ensures.0))

pub returns-else-next-sides : goal.returns-else-next-sides
returns-else-next-sides c =
    let s = c.args in
    alone (key_in s.keys.now) s.sides.now s.i c.requires.1 (omega arith)
