-- `put_four`: four runs of `size` stores, each from where the last one ended, are one run.
use Prim.Native.Nat.{◌+◌, ◌*◌}
use mathlib.Core.Path.{◌≡◌, ◌∙◌}
use Rattle.base.specs.LittleEndian.{little_endian}
use Rattle.base.proofs.LittleEndian.{joined, number_bytes}
use Rattle.base.proofs.StoreLaws.{four_stores}
use Rattle.octant_bytes.specs.Steps.Counts.{four_bytes}
use native.Mathlib.Omega.{arith}
use Rattle.octant_bytes.proofs.put_four.Goals as goal

pub returns : goal.returns
unfolding four_bytes
returns c =
    let s = c.args in
    let n = s.size in
    let two = joined (number_bytes n s.a) (number_bytes n s.b) in
    let twice : n + n ≡ 2 * n = omega arith in
    let thrice : n + n + n ≡ 3 * n = omega arith in
    four_stores s.out.now (little_endian n s.a) (little_endian n s.b) (little_endian n s.c) (little_endian n s.d) s.at n (2 * n) (3 * n)
    (number_bytes n s.a).size (two.size ∙ twice) ((joined two (number_bytes n s.c)).size ∙ thrice)
    c.put_le.ensures c.put_le-2.ensures c.put_le-3.ensures c.put_le-4.ensures
