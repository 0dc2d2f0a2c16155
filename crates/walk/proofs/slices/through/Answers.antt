-- `slices::through` meets its contract. The loop's invariant: the walk from the first state leads through the present one.
-- The measure is how many records can be left.
use native.Mathlib.Omega.{arith}
use Rattle.std.specs.Prelude.{◌≡◌, true}
use mathlib.Core.Path.{sym, ◌∙◌}
use Rattle.walk_steps.specs.Steps.Contracts.{inside_range}
use Rattle.walk.proofs.PassLaws.{inside_at}
use Rattle.walk.proofs.Running as running
use Rattle.walk.proofs.slices.through.Goals as goal

pub loop-query-init : goal.loop-query-init
loop-query-init c = running.here _ _ _ c.requires.ready

pub inside-requires : goal.inside-requires
inside-requires c = tt

pub at_node-step-requires : goal.at_node-step-requires
at_node-step-requires c =
    let inside : inside_range c.loop-query.s ≡ true = sym c.inside.ensures ∙ c.loop-query-test.true in
    let f = c.loop-query.invariant.ready.fits in
    let h = inside_at c.loop-query.s inside in record {
      at_in_bounds = (omega (arith, f.node_bytes, f.last_in), omega (arith, f.few_nodes, f.last_in), f.few_reads);
      handed_le = (f.handed_in, f.few_items);
      topped = c.requires.topped;
    }

pub hand_out-requires : goal.hand_out-requires
hand_out-requires c =
    let inside : inside_range c.loop-query.s ≡ true = sym c.inside.ensures ∙ c.loop-query-test.true in
    (running.node_room _ _ _ c.loop-query.invariant.ready inside _ c.at_node-step.ensures, c.at_node-step.ensures.short_run)

pub loop-query-smaller : goal.loop-query-smaller
loop-query-smaller c =
    let inside : inside_range c.loop-query.s ≡ true = sym c.inside.ensures ∙ c.loop-query-test.true in
    running.node_falls _ _ _ c.loop-query.invariant.ready inside _ c.at_node-step.ensures

pub loop-query-preserved : goal.loop-query-preserved
loop-query-preserved c =
    let inside : inside_range c.loop-query.s ≡ true = sym c.inside.ensures ∙ c.loop-query-test.true in
    let came = c.loop-query.invariant in
    running.onto _ _ _ _ _ _ _ came (running.node_read _ _ _ came.ready inside _ c.at_node-step.ensures _ c.hand_out.ensures)

pub returns : goal.returns
returns c = (c.loop-query.invariant, sym c.inside.ensures ∙ c.loop-query-test.false)
