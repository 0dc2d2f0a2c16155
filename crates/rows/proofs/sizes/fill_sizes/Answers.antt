-- `sizes::fill_sizes` meets its contract. The loop's invariant is `Filling`: the rows from i on are sized, the others as they were.
use Prim.Native.Nat.{◌-◌}
use mathlib.Core.Path.{sym, ◌∙◌}
use Rattle.rows.specs.Steps.Table.{row_at}
use Rattle.rows.proofs.TableLaws.{length_rows_in}
use Rattle.rows.proofs.sizes.Filling.{start, turn_first, turn_read, inner_turn, leaf_turn, ended}
use native.Mathlib.Omega.{arith}
use Rattle.rows.proofs.sizes.fill_sizes.Goals as goal

pub loop-i-init : goal.loop-i-init
loop-i-init c = start _ _ c.requires.0

pub overflow_add-i-then-row_count-eq0-2 : goal.overflow_add-i-then-row_count-eq0-2
overflow_add-i-then-row_count-eq0-2 c =
    let first = turn_first c.args.m c.args.rows.now _ _ _ _ c.loop-i-test.true c.loop-i.invariant c.node_size-l.ensures in
    omega (arith, first, c.requires)

pub overflow_add-l : goal.overflow_add-l
overflow_add-l c =
    let first = turn_first c.args.m c.args.rows.now _ _ _ _ c.loop-i-test.true c.loop-i.invariant c.node_size-l.ensures in
    omega (arith, first, c.requires)

pub overflow_add-l-then-row_count-eq0 : goal.overflow_add-l-then-row_count-eq0
overflow_add-l-then-row_count-eq0 c =
    let both = turn_read c.args.m c.args.rows.now _ _ _ _ c.loop-i-test.true c.loop-i.invariant c.node_size-l.ensures _ c.node_size-r.ensures in
    omega (arith, both.ends, length_rows_in c.args.m c.args.rows.now, c.loop-i-test.true, c.requires)

pub set_head-requires : goal.set_head-requires
set_head-requires c =
    let both = turn_read c.args.m c.args.rows.now _ _ _ _ c.loop-i-test.true c.loop-i.invariant c.node_size-l.ensures _ c.node_size-r.ensures in
    let many = length_rows_in c.args.m c.args.rows.now in
    (omega (arith, c.loop-i.auto.rows, c.loop-i.auto.i, c.loop-i-test.true, c.requires), omega (arith, both.ends, many, c.loop-i-test.true, c.requires))

pub loop-i-preserved-then-row_count-eq0 : goal.loop-i-preserved-then-row_count-eq0
loop-i-preserved-then-row_count-eq0 c =
    let l = c.loop-i in
    let many = length_rows_in c.args.m c.args.rows.now in
    let both = turn_read c.args.m c.args.rows.now _ _ _ _ c.loop-i-test.true l.invariant c.node_size-l.ensures _ c.node_size-r.ensures in
    let inner = sym c.row_count.ensures ∙ c.if-row_count-eq0.true in
    rw c.set_head.ensures
    (inner_turn _ _ _ _ _ many l.invariant (l.i - 1) (omega (arith, c.loop-i-test.true)) (row_at l.rows 0) _ _ both inner)

pub loop-i-preserved : goal.loop-i-preserved
loop-i-preserved c =
    let l = c.loop-i in
    let many = length_rows_in c.args.m c.args.rows.now in
    leaf_turn _ _ _ _ _ many l.invariant (l.i - 1) (omega (arith, c.loop-i-test.true)) (row_at l.rows 0)
    (λ e. c.if-row_count-eq0.false (c.row_count.ensures ∙ e))

pub returns : goal.returns
returns c =
    let a = c.args in
    ended _ _ _ _ _ (length_rows_in a.m a.rows.now) c.loop-i.invariant (omega (arith, c.loop-i-test.false))
