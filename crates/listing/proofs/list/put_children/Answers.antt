-- `list::put_children` meets its contract: the entries hold the child boxes, their build is not refused, and what it writes is listed.
use Rattle.std.specs.Prelude.{◌/◌, length, replicate}
use mathlib.Core.Path.{ap, ◌∙◌}
use Rattle.bvh.specs.Entry.{entries_in, Outputs, outputs}
use Rattle.listing.specs.Listing.{children_of}
use Rattle.listing.proofs.Children.{children_taken, children_are}
use Rattle.listing.proofs.FewBoxes.{few_children, Made, made, made_not, nodes_few, capacity_few, trees_few, made_listed}
use Rattle.listing.proofs.Putting.{put_as}
use native.Mathlib.Omega.{arith}
use Rattle.listing.proofs.list.put_children.Goals as goal

pub returns-in_default : goal.returns-in_default
returns-in_default c =
    let written : Outputs =
    let last = c.build_core-built.new in
    outputs last.node_bytes last.tree_bytes last.order in
    let left : Made (children_of c.args.input.now) c.build_core-built.result (outputs (replicate 8208 0) (replicate 8208 0) (replicate 256 0)) written =
    let input = c.args.input.now in
    let n = length input / 32 in
    made
    (ap (entries_in n) (children_taken input _ _ n c.read_children.ensures) ∙ children_are input c.requires.2)
    (few_children input c.requires.1)
    (record {
      nodes_room = omega arith;
      trees_room = omega arith;
      order_room = omega arith;
      entries_room = omega arith;
      places_room = omega arith;
      temp_room = omega arith;
      stack_room = omega arith;
      rows_room = omega arith;
      centres_room = omega arith;
    })
    c.build_core-built.ensures in
    absurd (made_not _ left c.in_default.field-0 c.in_default.is)

pub put_records-requires : goal.put_records-requires
put_records-requires c =
    let written : Outputs =
    let last = c.build_core-built.new in
    outputs last.node_bytes last.tree_bytes last.order in
    let left : Made (children_of c.args.input.now) c.build_core-built.result (outputs (replicate 8208 0) (replicate 8208 0) (replicate 256 0)) written =
    let input = c.args.input.now in
    let n = length input / 32 in
    made
    (ap (entries_in n) (children_taken input _ _ n c.read_children.ensures) ∙ children_are input c.requires.2)
    (few_children input c.requires.1)
    (record {
      nodes_room = omega arith;
      trees_room = omega arith;
      order_room = omega arith;
      entries_room = omega arith;
      places_room = omega arith;
      temp_room = omega arith;
      stack_room = omega arith;
      rows_room = omega arith;
      centres_room = omega arith;
    })
    c.build_core-built.ensures in
    let e = children_of c.args.input.now in
    let m = left in
    let kept = c.build_core-built.auto in
    let tree = c.in-Ok in
    let nodes = nodes_few e m tree.tree tree.is in
    let capacity = capacity_few e m tree.tree tree.is in
    let trees = trees_few e m tree.tree tree.is in
    (c.requires.0, omega arith, omega arith, omega arith, omega arith, omega arith)

pub returns : goal.returns
returns c =
    let written : Outputs =
    let last = c.build_core-built.new in
    outputs last.node_bytes last.tree_bytes last.order in
    let left : Made (children_of c.args.input.now) c.build_core-built.result (outputs (replicate 8208 0) (replicate 8208 0) (replicate 256 0)) written =
    let input = c.args.input.now in
    let n = length input / 32 in
    made
    (ap (entries_in n) (children_taken input _ _ n c.read_children.ensures) ∙ children_are input c.requires.2)
    (few_children input c.requires.1)
    (record {
      nodes_room = omega arith;
      trees_room = omega arith;
      order_room = omega arith;
      entries_room = omega arith;
      places_room = omega arith;
      temp_room = omega arith;
      stack_room = omega arith;
      rows_room = omega arith;
      centres_room = omega arith;
    })
    c.build_core-built.ensures in
    let tree = c.in-Ok in
    let text = made_listed (children_of c.args.input.now) left tree.tree tree.is in
    put_as text (omega arith) c.put_records.ensures
