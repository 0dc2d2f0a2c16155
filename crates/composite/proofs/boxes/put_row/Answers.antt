-- `put_row` meets its contract: four runs of four stores, each from where the last one ended, are one run.
use Rattle.base.specs.LittleEndian.{little_endian}
use Rattle.base.proofs.LittleEndian.{joined, number_bytes}
use Rattle.base.proofs.StoreLaws.{four_stores}
use Rattle.composite.specs.Boxes.{row_bytes}
use Rattle.composite.proofs.boxes.put_row.Goals as goal

pub returns : goal.returns
unfolding row_bytes
returns c =
    let a = c.args in
    let p = a.p in
    let xy = joined (number_bytes 4 p.x) (number_bytes 4 p.y) in
    four_stores a.out.now (little_endian 4 p.x) (little_endian 4 p.y) (little_endian 4 p.z) (little_endian 4 a.w) a.at 4 8 12
    (number_bytes 4 p.x).size xy.size (joined xy (number_bytes 4 p.z)).size
    c.put_le.ensures c.put_le-2.ensures c.put_le-3.ensures c.put_le-4.ensures
