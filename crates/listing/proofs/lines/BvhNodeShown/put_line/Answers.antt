-- `lines::BvhNodeShown::put_line` meets its contract: the line of a record of this kind.
use Rattle.listing.specs.Lines.{node_word, node_line}
use Rattle.listing.proofs.Lining.{record_put}
use Rattle.listing.proofs.lines.BvhNodeShown.put_line.Goals as goal

pub returns : goal.returns
unfolding node_line
returns c =
    let a = c.args in
    let one = c.struct_told-1.given.1.1.0.1 in
    let two = c.struct_told-2-1.given.1.1.1.0.1 in
    record_put node_word a.number a.self.min a.self.max a.self.item_id a.self.item_count one two c.put_record.ensures
