-- `put_vertex` meets its contract: three runs of two stores, each from where the last one ended, are one run.
use mathlib.Core.List.{◌++◌}
use Prim.Native.Nat.{◌+◌}
use Rattle.records.specs.Shorts.{short_bytes}
use Rattle.records.specs.Records.{vertex_bytes}
use Rattle.records.proofs.Fields.{same_stored}
use Rattle.base.proofs.LittleEndian.{joined}
use Rattle.records.proofs.Sizes.{short_bytes_lem}
use Rattle.base.proofs.StoreLaws.{store_next}
use Rattle.records.proofs.put_vertex.Goals as goal

pub returns : goal.returns
unfolding vertex_bytes
returns c =
    let a = c.args in
    let v = a.v in
    let x = same_stored _ a.at v.0 c.struct_told-1.given.0.1 c.put_short.ensures in
    let y = same_stored _ (a.at + 2) v.1 c.struct_told-2-1.given.1.0.1 c.put_short-2.ensures in
    let z = same_stored _ (a.at + 4) v.2 c.struct_told-3-1.given.1.1.0.1 c.put_short-3.ensures in
    let xy = store_next a.out.now (short_bytes v.0) (short_bytes v.1) a.at 2 (short_bytes_lem v.0).size x y in
    store_next a.out.now (short_bytes v.0 ++ short_bytes v.1) (short_bytes v.2) a.at 4
    (joined (short_bytes_lem v.0) (short_bytes_lem v.1)).size xy z
