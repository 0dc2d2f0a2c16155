-- `slices::read_trees` meets its contract. The loop's invariant: the walk from the first state leads through the present one, which stands outside
-- a range. The measure is how many records can be left.
use mathlib.Core.Path.{sym, ◌∙◌}
use Rattle.walk.proofs.Running as running
use Rattle.walk.proofs.slices.read_trees.Goals as goal

pub loop-query-init : goal.loop-query-init
loop-query-init c =
    let p = c.requires in
    (running.here _ _ _ p.ready, p.s_value.0)

pub unfinished-requires : goal.unfinished-requires
unfinished-requires c = tt

pub advance-s-requires : goal.advance-s-requires
advance-s-requires c =
    let p = c.requires in
    record {
      ready = c.loop-query.invariant.0.ready;
      s_value = (sym c.unfinished.ensures ∙ c.loop-query-test.true, c.loop-query.invariant.1, p.s_value.1);
      topped = p.topped;
    }

pub loop-query-smaller : goal.loop-query-smaller
loop-query-smaller c = c.advance-s.ensures.2

pub loop-query-preserved : goal.loop-query-preserved
loop-query-preserved c =
    (running.onto _ _ _ _ _ _ _ c.loop-query.invariant.0 c.advance-s.ensures.0, c.advance-s.ensures.1)

pub returns : goal.returns
returns c =
    let inv = c.loop-query.invariant in
    (inv.0, inv.1, sym c.unfinished.ensures ∙ c.loop-query-test.false)
