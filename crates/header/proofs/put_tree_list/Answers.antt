-- `put_tree_list` meets its contract: four runs of stores, each from where the last one ended, are one run, and the bytes of 0 are zeros.
use lib.ListN.{replicate}
use Rattle.base.specs.LittleEndian.{little_endian}
use Rattle.header.specs.Header.{tree_list_bytes}
use Rattle.base.proofs.LittleEndian.{zeros_stored, joined, number_bytes}
use Rattle.base.proofs.StoreLaws.{four_stores}
use Rattle.header.proofs.put_tree_list.Goals as goal

pub returns : goal.returns
unfolding tree_list_bytes
returns c =
    let a = c.args in
    let h = a.h in
    let two = joined (number_bytes 8 h.trees_address) (number_bytes 2 h.trees_count) in
    four_stores a.out.now (little_endian 8 h.trees_address) (little_endian 2 h.trees_count) (little_endian 2 h.trees_count)
    (replicate 4 0) 112 8 10 12
    (number_bytes 8 h.trees_address).size two.size (joined two (number_bytes 2 h.trees_count)).size
    c.put_le.ensures c.put_le-2.ensures c.put_le-3.ensures (zeros_stored _ 124 4 c.put_le-4.ensures)
