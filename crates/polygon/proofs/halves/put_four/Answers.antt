-- `halves::put_four` meets its contract: four runs of two stores, each from where the last one ended, are one run.
use Rattle.base.specs.LittleEndian.{little_endian}
use Rattle.base.proofs.LittleEndian.{joined, number_bytes}
use Rattle.base.proofs.StoreLaws.{four_stores}
use Rattle.polygon.specs.Halves.{four_bytes}
use Rattle.polygon.proofs.halves.put_four.Goals as goal

pub returns : goal.returns
unfolding four_bytes
returns c =
    let s = c.args in
    let two = joined (number_bytes 2 s.a) (number_bytes 2 s.b) in
    four_stores s.out.now (little_endian 2 s.a) (little_endian 2 s.b) (little_endian 2 s.c) (little_endian 2 s.d) s.at 2 4 6
    (number_bytes 2 s.a).size two.size (joined two (number_bytes 2 s.c)).size
    c.put_le.ensures c.put_le-2.ensures c.put_le-3.ensures c.put_le-4.ensures
