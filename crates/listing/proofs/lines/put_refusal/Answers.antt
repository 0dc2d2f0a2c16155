-- `lines::put_refusal` meets its contract: its parts are put one after the other.
use Rattle.listing.specs.Lines.{refused_line}
use Rattle.listing.proofs.Putting.{put_then}
use Rattle.listing.proofs.lines.put_refusal.Goals as goal

pub returns : goal.returns
unfolding refused_line
returns c =
    put_then (put_then c.put_text-first.ensures c.put_decimal-end.ensures) c.put_byte.ensures
