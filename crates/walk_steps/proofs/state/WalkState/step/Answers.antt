-- `state::WalkState::step` meets its contract: a node where one is left in the range, else the next tree, by the lanes of the query.
use mathlib.Core.Path.{sym, ap, ◌∙◌}
use Prim.Native.Nat.{◌*◌}
use Rattle.records.specs.Records.{node_at, tree_at}
use Rattle.walk_steps.specs.Step.{Lent, lent_of, quiet, at_node, at_tree}
use Rattle.walk_steps.specs.declared.boxes.Query.{Query}
use Rattle.walk_steps.proofs.StepLaws.{step_node, step_tree}
use Rattle.walk_steps.proofs.SameTurn.{stepped_as}
use Rattle.walk_steps.proofs.state.WalkState.step.Goals as goal

pub returns-then-self : goal.returns-then-self
returns-then-self c =
    let lent : Lent = lent_of c.args.query c.args.sizes c.args.node_bytes.now c.args.tree_bytes.now in
    let l = lent in
    let s = c.args.self in
    let same = ap (λ (q : Query). at_node q l.sizes.items (node_at l.nodes (16 * s.at)) s) c.lanes_of-lanes.ensures.0 in
    stepped_as (same ∙ sym (step_node l s c.if-self.true)) c.at_node.ensures

pub returns-else-self : goal.returns-else-self
returns-else-self c =
    let lent : Lent = lent_of c.args.query c.args.sizes c.args.node_bytes.now c.args.tree_bytes.now in
    let l = lent in
    let s = c.args.self in
    let same = ap (λ (q : Query). at_tree q l.sizes.nodes (tree_at l.trees (16 * s.tree)) s) c.lanes_of-lanes.ensures.0 in
    stepped_as (ap quiet (c.at_tree.ensures ∙ same) ∙ sym (step_tree l s c.if-self.false)) c.quiet.ensures
