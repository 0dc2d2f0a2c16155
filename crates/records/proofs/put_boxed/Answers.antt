-- `put_boxed` meets its contract: four runs of stores, each from where the last one ended, are one run of 16.
use Prim.Native.Nat.{◌+◌}
use Rattle.records.specs.Shorts.{short_bytes}
use Rattle.records.specs.Records.{vertex_bytes, boxed_bytes}
use Rattle.records.proofs.Fields.{same_stored}
use Rattle.base.proofs.LittleEndian.{joined}
use Rattle.records.proofs.Sizes.{short_bytes_lem, vertex_bytes_lem}
use Rattle.base.proofs.StoreLaws.{four_stores}
use Rattle.records.proofs.put_boxed.Goals as goal

pub returns : goal.returns
unfolding boxed_bytes
returns c =
    let a = c.args in
    let box = joined (vertex_bytes_lem a.min) (vertex_bytes_lem a.max) in
    let one = same_stored _ (a.at + 12) a.first c.ranges.first.sfits c.put_short.ensures in
    let two = same_stored _ (a.at + 14) a.second c.ranges.second.sfits c.put_short-2.ensures in
    four_stores a.out.now (vertex_bytes a.min) (vertex_bytes a.max) (short_bytes a.first) (short_bytes a.second) a.at 6 12 14
    (vertex_bytes_lem a.min).size box.size (joined box (short_bytes_lem a.first)).size
    c.put_vertex.ensures c.put_vertex-2.ensures one two
