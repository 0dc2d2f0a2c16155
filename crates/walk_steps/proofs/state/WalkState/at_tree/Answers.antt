-- `state::WalkState::at_tree` meets its contract: the three ways through it are the cases of the definition.
use mathlib.Core.Path.{sym, ap, ◌∙◌}
use Rattle.records.specs.declared.BvhTree.{BvhTree}
use Rattle.walk_steps.specs.Refusals.{whole}
use Rattle.walk_steps.specs.Step.{at_tree}
use Rattle.walk_steps.specs.Steps.Lanes.{plain_of}
use Rattle.walk_steps.proofs.Shorts.{same}
use Rattle.walk_steps.proofs.StepLaws.{tree_refused, tree_entered, tree_passed, entering_by}
use Rattle.walk_steps.proofs.state.WalkState.at_tree.Goals as goal

pub returns-then-range_refused : goal.returns-then-range_refused
returns-then-range_refused c =
    let a = c.args in
    let is = ap (λ (u : BvhTree). at_tree (plain_of a.query) a.nodes u a.self) (sym c.tree_at-t.ensures) in
    let bad = sym c.range_refused.ensures ∙ c.if-range_refused.true in
    c.refused.ensures ∙ sym (is ∙ tree_refused (plain_of a.query) a.nodes c.tree_at-t.result a.self bad)

pub returns-then-meets : goal.returns-then-meets
returns-then-meets c =
    let a = c.args in
    let is = ap (λ (u : BvhTree). at_tree (plain_of a.query) a.nodes u a.self) (sym c.tree_at-t.ensures) in
    let t = c.tree_at-t.result in
    let first_is = c.number-first.ensures.0 ∙ ap whole (same t.node_index1 c.struct_told-then-meets-1.given.1.1.0.1) in
    let last_is = c.number-last.ensures.0 ∙ ap whole (same t.node_index2 c.struct_told-then-meets-2-1.given.1.1.1.0.1) in
    let good = sym c.range_refused.ensures ∙ c.if-range_refused.false in
    let met = sym c.meets.ensures ∙ c.if-meets.true in
    entering_by t a.self _ _ first_is last_is ∙ sym (is ∙ tree_entered (plain_of a.query) a.nodes t a.self good met)

pub returns-else-meets : goal.returns-else-meets
returns-else-meets c =
    let a = c.args in
    let is = ap (λ (u : BvhTree). at_tree (plain_of a.query) a.nodes u a.self) (sym c.tree_at-t.ensures) in
    let good = sym c.range_refused.ensures ∙ c.if-range_refused.false in
    let missed = sym c.meets.ensures ∙ c.if-meets.false in
    sym (is ∙ tree_passed (plain_of a.query) a.nodes c.tree_at-t.result a.self good missed)
