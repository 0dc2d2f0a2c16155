-- `grow::grow_tree` meets its contract: without places one empty leaf, else the laid rows with their sizes. The centres are kept once for all.
use Prim.Native.Nat.{◌*◌, ◌≤◌, ◌<◌}
use lib.ListN.{length}
use Rattle.entries.specs.Boxes.{box_at}
use Rattle.growth.proofs.Lawful.{lawful}
use Rattle.growth.proofs.grow.Finished.{empty, finished}
use native.Mathlib.Omega.{arith}
use Rattle.growth.proofs.grow.grow_tree.Goals as goal

pub returns-then-places-eq0 : goal.returns-then-places-eq0
returns-then-places-eq0 c =
    let none = c.if-places-eq0.true in
    empty _ _ c.args.places.now c.args.rows.now _ none (omega (arith, c.requires.0.rows_room))
    (rw c.fold_words-around.ensures at c.put_row.ensures)

pub put_centres-requires : goal.put_centres-requires
put_centres-requires c =
    let p = c.requires in
    (p.1, p.2, c.all_numbers-plain.ensures)

pub grow-m-requires : goal.grow-m-requires
grow-m-requires c =
    let z = c.if-places-eq0.false in
    (omega arith, c.requires.0, c.all_numbers-plain.ensures, c.put_centres.ensures)

pub returns : goal.returns
returns c =
    let some : 0 < length c.args.places.now = let z = c.if-places-eq0.false in omega arith in
    let fits : 8 * c.grow-m.result ≤ length c.grow-m.new.rows = omega (arith, c.grow-m.auto.rows, c.grow-m.ensures.most, c.requires.0.rows_room) in
    let law = lawful (box_at c.args.entries.now) in
    finished _ law _ _ _ _ _ _ c.requires.0.threshold some c.grow-m.ensures fits c.fill_sizes.ensures
