-- `state::WalkState::at_node` meets its contract: the three ways through it are the cases of the definition. The record was read twice, and
-- is the same.
use mathlib.Core.Bool.{Bool}
use mathlib.Core.Path.{◌≡◌, sym, ap, ◌∙◌}
use Prim.Native.Nat.{ℕ}
use Rattle.records.specs.declared.BvhNode.{BvhNode}
use Rattle.walk_steps.specs.Boxes.{meets}
use Rattle.walk_steps.specs.declared.boxes.Query.{Query}
use Rattle.walk_steps.specs.Step.{quiet, onward}
use Rattle.walk_steps.specs.Steps.Lanes.{plain_of}
use Rattle.walk_steps.proofs.StepLaws.{node_refused, node_handing, node_onward}
use Rattle.walk_steps.proofs.SameTurn.{stepped_as, read_as}
use Rattle.walk_steps.proofs.state.WalkState.at_node.Goals as goal

-- what the query's test says of one reading of a record, it says of the other
same_test : (q : Query) {n m : BvhNode} {b : Bool} → m ≡ n → meets q n.min n.max ≡ b → meets q m.min m.max ≡ b
same_test q same e = ap (λ (n : BvhNode). meets q n.min n.max) same ∙ e

pub returns-then-node_refused : goal.returns-then-node_refused
returns-then-node_refused c =
    let a = c.args in
    let bad = sym c.node_refused.ensures ∙ c.if-node_refused.true in
    let is = node_refused (plain_of a.query) a.items c.node_apart-apart.result a.self bad in
    read_as _ _ _ c.node_apart-apart.ensures (stepped_as (ap quiet c.refused.ensures ∙ sym is) c.quiet.ensures)

pub returns-then-meets : goal.returns-then-meets
returns-then-meets c =
    let a = c.args in
    let good = sym c.node_refused.ensures ∙ c.if-node_refused.false in
    let met = same_test (plain_of a.query) (c.node_apart-apart.ensures ∙ sym c.node_numbered-n.ensures) (sym c.meets.ensures ∙ c.if-meets.true) in
    let is = node_handing (plain_of a.query) a.items c.node_apart-apart.result a.self good met in
    read_as _ _ _ c.node_apart-apart.ensures (stepped_as (sym is) c.hand_over.ensures)

pub returns : goal.returns
returns c =
    let a = c.args in
    let good = sym c.node_refused.ensures ∙ c.if-node_refused.false in
    let missed = same_test (plain_of a.query) (c.node_apart-apart.ensures ∙ sym c.node_numbered-n.ensures) (sym c.meets.ensures ∙ c.if-meets.false) in
    let is = node_onward (plain_of a.query) a.items c.node_apart-apart.result a.self good missed in
    let on = ap (λ (k : ℕ). quiet (onward k a.self)) c.stride.ensures.0 in
    read_as _ _ _ c.node_apart-apart.ensures (stepped_as (on ∙ sym is) c.quiet-2.ensures)
