-- `reading::put_child` meets its contract: a store of the mark, and the box after it, are one run of stores.
use native.Mathlib.Numerals.{add-one}
use mathlib.Core.Path.{◌∙◌}
use lib.ListN.{length-set}
use native.Mathlib.Omega.{arith}
use Rattle.listing.proofs.reading.put_child.Goals as goal

pub put_box-requires : goal.put_box-requires
put_box-requires c = simp length-set (omega arith)

pub returns : goal.returns
returns c = c.put_box.ensures ∙ rw (add-one, c.child_box.ensures)
