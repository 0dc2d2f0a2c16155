-- `slices::run` meets its contract: the first trees, and the others if there are more; two ways put together.
use native.Mathlib.Omega.{arith}
use Rattle.std.specs.Prelude.{◌≡◌, ℕ, false}
use mathlib.Core.Path.{refl, sym, subst}
use Rattle.walk_steps.specs.Step.{lent_of, more}
use Rattle.walk_steps.specs.Steps.Lanes.{plain_of}
use Rattle.walk.specs.Steps.Passing.{Ready}
use Rattle.walk_steps.specs.Steps.Contracts.{inside_range}
use Rattle.walk_steps.specs.declared.state.WalkState.{WalkState}
use Rattle.walk.proofs.Running as running
use Rattle.walk.proofs.slices.run.Goals as goal

pub read_trees-s-requires : goal.read_trees-s-requires
read_trees-s-requires c =
    let a = c.args in
    let l = lent_of (plain_of c.lanes_of-lanes.result) a.sizes a.node_bytes.now a.tree_bytes.now in
    let ready = running.begun l a.out.now c.requires.steppable c.requires.sizes_in_bounds in
    let b = subst (λ (u : WalkState). Ready l a.out.now u × (inside_range u ≡ false)) (sym c.start-start.ensures) (ready, refl) in
    record { ready = b.0; s_value = (b.1, omega (arith, c.min-few.ensures)); topped = c.lanes_of-lanes.ensures.1 }

pub read_trees-requires : goal.read_trees-requires
read_trees-requires c =
    record { ready = c.read_trees-s.ensures.0.ready; s_value = (c.read_trees-s.ensures.1, omega arith); topped = c.lanes_of-lanes.ensures.1 }

pub returns-then-few-sizes : goal.returns-then-few-sizes
returns-then-few-sizes c =
    let came = running.onto _ _ _ _ _ _ _ c.read_trees-s.ensures.0 c.read_trees.ensures.0 in
    running.done _ _ _ _ _ _ _ _ _ c.lanes_of-lanes.ensures.0 c.start-start.ensures came c.read_trees.ensures.2

pub returns : goal.returns
returns c =
    let trees = c.args.sizes.trees in
    let all : c.min-few.result ≡ trees = omega (arith, c.min-few.ensures) in
    let none = subst (λ (n : ℕ). more n c.read_trees-s.result ≡ false) all c.read_trees-s.ensures.2 in
    running.done _ _ _ _ _ _ _ _ _ c.lanes_of-lanes.ensures.0 c.start-start.ensures c.read_trees-s.ensures.0 none
