-- `slices::build_core` meets its contract: each test refuses by the definition's (Answering), and the outputs are written last.
use Rattle.std.specs.Prelude.{◌≡◌, ◌<◌, ◌≤◌, false}
use mathlib.Core.Path.{sym, ◌∙◌}
use lib.Seq.{length-take-le}
use Rattle.bvh.specs.Build.{short}
use Rattle.bvh.specs.Entry.{Outputs, Lent, lent, lengths_of}
use Rattle.bvh.proofs.slices.Answering.{Enough, enough, work_room, writable}
use Rattle.bvh.proofs.slices.Answering.{too_many_entries, threshold_below, threshold_above, buffer_too_short, too_many_nodes, built}
use native.Mathlib.Omega.{arith}
use Rattle.bvh.proofs.slices.build_core.Goals.{then-threshold-lt1-via-then-threshold-lt1, then-threshold-lt1-via-else-threshold-lt1+then-threshold-gt32767}
use Rattle.bvh.proofs.slices.build_core.Goals as goal

pub returns-then-n-gt32767 : goal.returns-then-n-gt32767
returns-then-n-gt32767 c = too_many_entries _ _ _ _ _ _ c.if-n-gt32767.true

pub returns-then-threshold-lt1 : goal.returns-then-threshold-lt1
returns-then-threshold-lt1 c =
    elim c.then-threshold-lt1.branch [
      | then-threshold-lt1-via-then-threshold-lt1 w ↦ threshold_below _ _ _ _ _ _ c.if-n-gt32767.false w.if-threshold-lt1.true
      | then-threshold-lt1-via-else-threshold-lt1+then-threshold-gt32767 w ↦ threshold_above _ _ _ _ _ _ c.if-n-gt32767.false w.if-threshold-lt1.false w.if-threshold-gt32767.true
    ]

pub returns-then-too_short : goal.returns-then-too_short
returns-then-too_short c =
    let short = sym c.too_short.ensures ∙ c.if-too_short.true in
    buffer_too_short _ _ _ _ _ _ c.if-n-gt32767.false c.if-threshold-lt1.false c.if-threshold-gt32767.false short

pub slice_bounds-listed-end : goal.slice_bounds-listed-end
slice_bounds-listed-end c =
    let before : Outputs =
    let a = c.args in
    record { nodes = a.node_bytes.now; trees = a.tree_bytes.now; order = a.order.now } in
    let work : Lent =
    let a = c.args in
    lent a.entries.now a.places.now a.temp.now a.stack.now a.rows.now a.centres.now in
    let long : short c.args.n (lengths_of before work) ≡ false = sym c.too_short.ensures ∙ c.if-too_short.false in
    let room : Enough c.args.n before work = enough _ before work long in
    sym (length-take-le _ _ room.entries_room)

pub plant-planted-requires : goal.plant-planted-requires
plant-planted-requires c =
    let before : Outputs =
    let a = c.args in
    record { nodes = a.node_bytes.now; trees = a.tree_bytes.now; order = a.order.now } in
    let work : Lent =
    let a = c.args in
    lent a.entries.now a.places.now a.temp.now a.stack.now a.rows.now a.centres.now in
    let few : c.args.n ≤ 32767 = c.if-n-gt32767.false in
    let some : 1 ≤ c.args.threshold = c.if-threshold-lt1.false in
    let limited : 0 < c.args.limit = c.requires in
    let long : short c.args.n (lengths_of before work) ≡ false = sym c.too_short.ensures ∙ c.if-too_short.false in
    let room : Enough c.args.n before work = enough _ before work long in
    work_room _ _ _ before work few some limited room

pub returns-then-planted-gt32767 : goal.returns-then-planted-gt32767
returns-then-planted-gt32767 c =
    let before : Outputs =
    let a = c.args in
    record { nodes = a.node_bytes.now; trees = a.tree_bytes.now; order = a.order.now } in
    let work : Lent =
    let a = c.args in
    lent a.entries.now a.places.now a.temp.now a.stack.now a.rows.now a.centres.now in
    let few : c.args.n ≤ 32767 = c.if-n-gt32767.false in
    let some : 1 ≤ c.args.threshold = c.if-threshold-lt1.false in
    let most : c.args.threshold ≤ 32767 = c.if-threshold-gt32767.false in
    let long : short c.args.n (lengths_of before work) ≡ false = sym c.too_short.ensures ∙ c.if-too_short.false in
    too_many_nodes _ _ _ _ _ _ few some most long (omega (arith, c.if-planted-gt32767.true, c.plant-planted.ensures.grown.size_is))

pub write_tree-requires : goal.write_tree-requires
write_tree-requires c =
    let before : Outputs =
    let a = c.args in
    record { nodes = a.node_bytes.now; trees = a.tree_bytes.now; order = a.order.now } in
    let work : Lent =
    let a = c.args in
    lent a.entries.now a.places.now a.temp.now a.stack.now a.rows.now a.centres.now in
    let few : c.args.n ≤ 32767 = c.if-n-gt32767.false in
    let some : 1 ≤ c.args.threshold = c.if-threshold-lt1.false in
    let limited : 0 < c.args.limit = c.requires in
    let long : short c.args.n (lengths_of before work) ≡ false = sym c.too_short.ensures ∙ c.if-too_short.false in
    let room : Enough c.args.n before work = enough _ before work long in
    let k = c.plant-planted.auto in
    writable _ _ _ before work few some limited room _ _ _ _ c.plant-planted.ensures c.if-planted-gt32767.false
    k.places k.temp k.rows

pub returns : goal.returns
returns c =
    let before : Outputs =
    let a = c.args in
    record { nodes = a.node_bytes.now; trees = a.tree_bytes.now; order = a.order.now } in
    let work : Lent =
    let a = c.args in
    lent a.entries.now a.places.now a.temp.now a.stack.now a.rows.now a.centres.now in
    let few : c.args.n ≤ 32767 = c.if-n-gt32767.false in
    let some : 1 ≤ c.args.threshold = c.if-threshold-lt1.false in
    let most : c.args.threshold ≤ 32767 = c.if-threshold-gt32767.false in
    let long : short c.args.n (lengths_of before work) ≡ false = sym c.too_short.ensures ∙ c.if-too_short.false in
    let g = c in
    built _ _ _ _ _ _ few some most long (omega (arith, c.if-planted-gt32767.false, g.plant-planted.ensures.grown.size_is)) _ _
    c.write_tree.ensures
