-- `corners::put_three` meets its contract: three runs of two stores, each from where the last one ended, are one run.
use mathlib.Core.List.{◌++◌}
use Prim.Native.Nat.{◌+◌, ◌*◌}
use lib.ListN.{get_or}
use Rattle.base.specs.LittleEndian.{little_endian}
use Rattle.base.proofs.LittleEndian.{joined, number_bytes}
use Rattle.base.proofs.StoreLaws.{store_next}
use Rattle.corners.specs.Corners.{link_bytes}
use Rattle.corners.proofs.put_three.Goals as goal

pub returns : goal.returns
unfolding link_bytes
returns c =
    let s = c.args in
    let out = s.polygons.now in
    let at = 16 * s.p + 10 in
    let a = get_or s.links.now (3 * s.p) 0 in
    let b = get_or s.links.now (3 * s.p + 1) 0 in
    let d = get_or s.links.now (3 * s.p + 2) 0 in
    let two = store_next out (little_endian 2 a) (little_endian 2 b) at 2 (number_bytes 2 a).size c.put_half.ensures c.put_half-2.ensures in
    store_next out (little_endian 2 a ++ little_endian 2 b) (little_endian 2 d) at 4 (joined (number_bytes 2 a) (number_bytes 2 b)).size two
    c.put_half-3.ensures
