-- `lines::put_vertex` meets its contract: three fields, one after the other.
use Rattle.listing.specs.Lines.{vertex_fields}
use Rattle.listing.proofs.Lining.{field_put}
use Rattle.listing.proofs.Putting.{put_then}
use Rattle.listing.proofs.lines.put_vertex.Goals as goal

pub returns : goal.returns
unfolding vertex_fields
returns c =
    let v = c.args.v in
    let x = field_put v.0 c.struct_told-1.given.0.1 c.put_field-y.ensures in
    let y = field_put v.1 c.struct_told-2-1.given.1.0.1 c.put_field-z.ensures in
    let z = field_put v.2 c.struct_told-3-1.given.1.1.0.1 c.put_field.ensures in
    put_then (put_then x y) z
