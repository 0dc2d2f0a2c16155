-- `emit::put_nodes` meets its contract. The loop's invariant: the records of the first i rows are written.
use Rattle.base.specs.Lists.{over}
use mathlib.Core.Path.{refl, ap, ◌∙◌}
use mathlib.Core.List.{List}
use lib.Seq.{take_all}
use Rattle.rows.specs.Output.{nodes_bytes}
use Rattle.rows.specs.Rows.{Row}
use Rattle.rows.specs.Steps.Table.{rows_in}
use Rattle.rows.proofs.SmallLaws.{small_at}
use Rattle.rows.proofs.TableLaws.{length_rows_in}
use Rattle.rows.proofs.emit.Writing.{row_next}
use native.Mathlib.Omega.{arith}
use Rattle.rows.proofs.emit.put_nodes.Goals as goal

pub loop-i-init : goal.loop-i-init
loop-i-init c = record { upto = omega arith; same = refl; held = refl }

pub overflow_mul-i : goal.overflow_mul-i
overflow_mul-i c = omega (arith, c.requires)

pub row_node-requires : goal.row_node-requires
row_node-requires c =
    let a = c.args in
    let small = small_at a.threshold a.leaf_order.now a.m a.rows.now c.loop-i.i c.requires.small (omega arith) in
    (omega (arith, c.requires), small)

pub put_node-requires : goal.put_node-requires
put_node-requires c = omega (arith, c.requires)

pub loop-i-preserved : goal.loop-i-preserved
loop-i-preserved c =
    let a = c.args in
    let l = c.loop-i in
    let row = c.row_node in
    let put = c.put_node in
    row_next a.scale a.threshold a.leaf_order.now a.m a.rows.now a.node_bytes.now l.node_bytes put.new.out row.result
    l.i l.invariant (omega arith) row.ensures c.requires.nodes_room put.ensures

pub returns : goal.returns
returns c =
    let a = c.args in
    let l = c.loop-i in
    let rs = rows_in a.m a.rows.now in
    let all = take_all l.i rs (omega (arith, length_rows_in a.m a.rows.now)) in
    l.invariant.held ∙ ap (λ (qs : List Row). over (nodes_bytes a.scale a.threshold a.leaf_order.now qs) a.node_bytes.now) all
