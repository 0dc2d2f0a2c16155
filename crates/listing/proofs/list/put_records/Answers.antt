-- `list::put_records` meets its contract: the three parts are put one after the other.
use mathlib.Core.Path.{refl}
use Rattle.listing.specs.Lines.{records_text, node_lines, tree_lines}
use Rattle.listing.proofs.Putting.{put_as, put_then}
use native.Mathlib.Omega.{arith}
use Rattle.listing.proofs.list.put_records.Goals as goal

pub returns : goal.returns
unfolding records_text node_lines tree_lines
returns c =
    put_as refl (omega arith) (put_then (put_then c.put_counts-first_node.ensures c.put_lines-first_tree.ensures) c.put_lines.ensures)
