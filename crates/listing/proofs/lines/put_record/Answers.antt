-- `lines::put_record` meets its contract: its parts are put one after the other.
use mathlib.Core.Path.{refl}
use Rattle.listing.specs.Lines.{record_line}
use Rattle.listing.proofs.Lining.{field_put}
use Rattle.listing.proofs.Putting.{put_as, put_then}
use native.Mathlib.Omega.{arith}
use Rattle.listing.proofs.lines.put_record.Goals as goal

pub returns : goal.returns
unfolding record_line
returns c =
    let one = field_put c.args.one c.ranges.one.sfits c.put_field-second.ensures in
    let two = field_put c.args.two c.ranges.two.sfits c.put_field-end.ensures in
    let numbered = put_then c.put_text-numbered.ensures c.put_decimal-low.ensures in
    let boxed = put_then (put_then numbered c.put_vertex-high.ensures) c.put_vertex-first.ensures in
    put_as refl (omega arith) (put_then (put_then (put_then boxed one) two) c.put_byte.ensures)
