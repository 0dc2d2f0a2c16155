-- `lines::put_counts` meets its contract: its parts are put one after the other.
use Rattle.listing.specs.Lines.{counts_line}
use Rattle.listing.proofs.Putting.{put_then}
use Rattle.listing.proofs.lines.put_counts.Goals as goal

pub returns : goal.returns
unfolding counts_line
returns c =
    let counted = put_then (put_then c.put_text-first.ensures c.put_decimal-space.ensures) c.put_byte-second.ensures in
    put_then (put_then counted c.put_decimal-end.ensures) c.put_byte.ensures
