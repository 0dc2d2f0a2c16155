-- `lines::BvhTreeShown::put_line` meets its contract: the line of a record of this kind.
use Rattle.listing.specs.Lines.{tree_word, tree_line}
use Rattle.listing.proofs.Lining.{record_put}
use Rattle.listing.proofs.lines.BvhTreeShown.put_line.Goals as goal

pub returns : goal.returns
unfolding tree_line
returns c =
    let a = c.args in
    let one = c.struct_told-1.given.1.1.0.1 in
    let two = c.struct_told-2-1.given.1.1.1.0.1 in
    record_put tree_word a.number a.self.min a.self.max a.self.node_index1 a.self.node_index2 one two c.put_record.ensures
