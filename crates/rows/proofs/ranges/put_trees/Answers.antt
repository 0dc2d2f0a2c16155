-- `ranges::put_trees` meets its contract. The loop's invariant, for every tree whose rows the table holds: after k records, at row i, the
-- ranges yet to come are those of the rows from i on, and the others' records are written. The measure is what is left of the rows.
use Rattle.rows.proofs.ranges.Scanning.{Turn, start, finish, table_room, pass, turn, write}
use native.Mathlib.Omega.{arith}
use Rattle.rows.proofs.ranges.put_trees.Goals as goal

pub loop-i-init : goal.loop-i-init
loop-i-init c =
    let a = c.args in
    start a.limit a.scale a.m a.rows.now a.tree_bytes.now c.requires

pub tree_size-size-requires : goal.tree_size-size-requires
tree_size-size-requires c = omega (arith, table_room _ _ _ _ c.requires)

pub loop-i-preserved-then-limit-size : goal.loop-i-preserved-then-limit-size
loop-i-preserved-then-limit-size c =
    pass _ _ _ _ _ _ _ _ _ c.requires c.loop-i.invariant c.loop-i-test.true c.tree_size-size.ensures c.if-limit-size.true

pub overflow_mul-k : goal.overflow_mul-k
overflow_mul-k c =
    let before_it : let l = c.loop-i in Turn c.args.rows.now l.tree_bytes l.i l.k c.tree_size-size.result =
    let size = c.tree_size-size.ensures in
    turn _ _ _ _ _ _ _ _ _ c.requires c.loop-i.invariant c.loop-i-test.true size c.if-limit-size.false in
    let b = before_it in
    omega arith

pub overflow_add-i-else-limit-size : goal.overflow_add-i-else-limit-size
overflow_add-i-else-limit-size c =
    let before_it : let l = c.loop-i in Turn c.args.rows.now l.tree_bytes l.i l.k c.tree_size-size.result =
    let size = c.tree_size-size.ensures in
    turn _ _ _ _ _ _ _ _ _ c.requires c.loop-i.invariant c.loop-i-test.true size c.if-limit-size.false in
    let b = before_it in
    omega arith

pub put_range-requires : goal.put_range-requires
put_range-requires c =
    let before_it : let l = c.loop-i in Turn c.args.rows.now l.tree_bytes l.i l.k c.tree_size-size.result =
    let size = c.tree_size-size.ensures in
    turn _ _ _ _ _ _ _ _ _ c.requires c.loop-i.invariant c.loop-i-test.true size c.if-limit-size.false in
    let b = before_it in
    omega arith

pub overflow_add-k : goal.overflow_add-k
overflow_add-k c =
    let before_it : let l = c.loop-i in Turn c.args.rows.now l.tree_bytes l.i l.k c.tree_size-size.result =
    let size = c.tree_size-size.ensures in
    turn _ _ _ _ _ _ _ _ _ c.requires c.loop-i.invariant c.loop-i-test.true size c.if-limit-size.false in
    let after-it : let l = c.loop-i in Turn c.args.rows.now l.tree_bytes l.i l.k c.tree_size-size.result = before_it in
    let b = after-it in
    omega arith

pub overflow_add-i-else-limit-size-2 : goal.overflow_add-i-else-limit-size-2
overflow_add-i-else-limit-size-2 c =
    let before_it : let l = c.loop-i in Turn c.args.rows.now l.tree_bytes l.i l.k c.tree_size-size.result =
    let size = c.tree_size-size.ensures in
    turn _ _ _ _ _ _ _ _ _ c.requires c.loop-i.invariant c.loop-i-test.true size c.if-limit-size.false in
    let after-it : let l = c.loop-i in Turn c.args.rows.now l.tree_bytes l.i l.k c.tree_size-size.result = before_it in
    let b = after-it in
    omega arith

pub loop-i-smaller : goal.loop-i-smaller
loop-i-smaller c =
    let before_it : let l = c.loop-i in Turn c.args.rows.now l.tree_bytes l.i l.k c.tree_size-size.result =
    let size = c.tree_size-size.ensures in
    turn _ _ _ _ _ _ _ _ _ c.requires c.loop-i.invariant c.loop-i-test.true size c.if-limit-size.false in
    let after-it : let l = c.loop-i in Turn c.args.rows.now l.tree_bytes l.i l.k c.tree_size-size.result = before_it in
    let b = after-it in
    omega arith

pub loop-i-preserved : goal.loop-i-preserved
loop-i-preserved c =
    let p = c.put_range in
    let size = c.tree_size-size.ensures in
    let small = c.if-limit-size.false in
    write _ _ _ _ _ _ _ _ _ c.requires c.loop-i.invariant c.loop-i-test.true size small _ p.auto.tree_bytes p.ensures

pub returns : goal.returns
returns c = finish _ _ _ _ _ _ _ _ c.loop-i.invariant c.loop-i-test.false
