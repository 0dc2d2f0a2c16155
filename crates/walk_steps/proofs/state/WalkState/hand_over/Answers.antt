-- `state::WalkState::hand_over` meets its contract: the numbers read from the record are the definition's.
use Rattle.base.specs.Lists.{up_from}
use native.Mathlib.Omega.{arith}
use mathlib.Core.Path.{ap, ◌∙◌}
use Prim.Native.Nat.{ℕ, ◌+◌, ◌-◌, min}
use Rattle.walk_steps.specs.Refusals.{whole}
use Rattle.walk_steps.specs.Step.{leaf_status, handing}
use Rattle.walk_steps.proofs.Shorts.{same}
use Rattle.walk_steps.proofs.state.WalkState.hand_over.Goals as goal

pub returns : goal.returns
unfolding handing
returns c =
    let a = c.args in
    let s = a.self in
    let n = a.n in
    let room = a.items - s.handed in
    let id_is = c.number-id.ensures.0 ∙ ap whole (same n.item_id c.struct_told-1.given.1.1.0.1) in
    let count_is = c.number-count.ensures.0 ∙ ap whole (same n.item_count c.struct_told-2-1.given.1.1.1.0.1) in
    let m-is = c.min-m.ensures ∙ ap (λ (k : ℕ). min k room) count_is in
    let status-is = c.leaf_status-status.ensures ∙ ap (leaf_status room) count_is in
    record {
      turn_is =
          λ i. record {
            state =
                record { tree = s.tree; at = s.at + 1; last = s.last; reads = s.reads + 1; handed = s.handed + m-is i; status = status-is i };
            given = up_from (id_is i) (m-is i);
          };
      short_run = omega (arith, c.number-id.ensures.1, c.number-count.ensures.1, c.min-m.ensures);
    }
