-- `slices::advance` meets its contract: all trees left are passed over, or the next one is read, with its range.
use native.Mathlib.Omega.{arith}
use Rattle.std.specs.Prelude.{◌<◌}
use Rattle.walk_steps.specs.Step.{Lent, lent_of}
use Rattle.walk.specs.Walks.{left}
use Rattle.walk_steps.specs.Steps.Lanes.{plain_of}
use Rattle.walk.specs.Steps.Passing.{Came}
use Rattle.walk.proofs.Running as running
use Rattle.walk.proofs.slices.advance.Goals as goal

pub pass_trees-t-requires : goal.pass_trees-t-requires
pass_trees-t-requires c =
    let lent : Lent = lent_of (plain_of c.args.query) c.args.sizes c.args.node_bytes.now c.args.tree_bytes.now in
    let f = c.requires.ready.fits in
    let p = c.requires.s_value in
    let h = running.tree_in lent c.args.out.now c.args.s c.args.upto c.requires.ready p.2 p.0 p.1 in
    record { from_le_upto = (omega arith, omega (arith, f.few_trees), omega (arith, f.tree_bytes)); topped = c.requires.topped }

pub ahead-p-requires : goal.ahead-p-requires
ahead-p-requires c =
    let f = c.requires.ready.fits in
    let p = c.pass_trees-t.ensures in
    (p.onward, omega (arith, p.in_bounds, c.requires.s_value.2, f.few_trees), f.few_reads)

pub at_tree-e-requires : goal.at_tree-e-requires
at_tree-e-requires c =
    let lent : Lent = lent_of (plain_of c.args.query) c.args.sizes c.args.node_bytes.now c.args.tree_bytes.now in
    let p = c.requires.s_value in record {
      tree_in_bounds =
          running.stood lent c.args.out.now c.args.s c.args.upto c.requires.ready p.2 p.0 p.1 _
          c.pass_trees-t.ensures c.if-t-upto.true _ c.ahead-p.ensures;
      topped = c.requires.topped;
    }

pub through-requires : goal.through-requires
through-requires c =
    let lent : Lent = lent_of (plain_of c.args.query) c.args.sizes c.args.node_bytes.now c.args.tree_bytes.now in
    let taken : Came lent c.args.s c.args.out.now c.args.out.now c.at_tree-e.result × (left lent c.at_tree-e.result < left lent c.args.s) =
    let p = c.requires.s_value in
    running.taken lent c.args.out.now c.args.s c.args.upto c.requires.ready p.2 p.0 p.1 _
    c.pass_trees-t.ensures c.if-t-upto.true _ _ c.ahead-p.ensures c.at_tree-e.ensures in
    record { ready = taken.0.ready; topped = c.requires.topped }

pub returns-then-t-upto : goal.returns-then-t-upto
returns-then-t-upto c =
    let lent : Lent = lent_of (plain_of c.args.query) c.args.sizes c.args.node_bytes.now c.args.tree_bytes.now in
    let taken : Came lent c.args.s c.args.out.now c.args.out.now c.at_tree-e.result × (left lent c.at_tree-e.result < left lent c.args.s) =
    let p = c.requires.s_value in
    running.taken lent c.args.out.now c.args.s c.args.upto c.requires.ready p.2 p.0 p.1 _
    c.pass_trees-t.ensures c.if-t-upto.true _ _ c.ahead-p.ensures c.at_tree-e.ensures in
    running.beyond _ _ _ _ _ _ taken c.through.ensures

pub returns : goal.returns
returns c =
    let lent : Lent = lent_of (plain_of c.args.query) c.args.sizes c.args.node_bytes.now c.args.tree_bytes.now in
    let p = c.requires.s_value in
    running.all_passed lent c.args.out.now c.args.s c.args.upto c.requires.ready p.2 p.0 p.1 _
    c.pass_trees-t.ensures _ c.ahead-p.ensures c.if-t-upto.false
