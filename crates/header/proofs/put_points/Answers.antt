-- `put_points` meets its contract: five runs of 16 stores, each from where the last one ended, are one run.
use mathlib.Core.List.{◌++◌}
use Rattle.header.specs.Header.{point_bytes, points_bytes}
use Rattle.base.proofs.LittleEndian.{joined}
use Rattle.header.proofs.Sizes.{point_bytes_lem}
use Rattle.base.proofs.StoreLaws.{store_next, four_stores}
use Rattle.header.proofs.put_points.Goals as goal

pub returns : goal.returns
unfolding points_bytes
returns c =
    let a = c.args in
    let h = a.h in
    let box = joined (point_bytes_lem h.bb_min) (point_bytes_lem h.bb_max) in
    let three = joined box (point_bytes_lem h.bb_center) in
    let four = four_stores a.out.now (point_bytes h.bb_min) (point_bytes h.bb_max) (point_bytes h.bb_center)
    (point_bytes h.quantum_inverse) 32 16 32 48
    (point_bytes_lem h.bb_min).size box.size three.size
    c.put_point.ensures c.put_point-2.ensures c.put_point-3.ensures c.put_point-4.ensures in
    store_next a.out.now
    (point_bytes h.bb_min ++ point_bytes h.bb_max ++ point_bytes h.bb_center ++ point_bytes h.quantum_inverse)
    (point_bytes h.quantum) 32 64
    (joined three (point_bytes_lem h.quantum_inverse)).size four c.put_point-5.ensures
