-- `little_endian::put_le` meets its contract. The invariant: storing what is left of n, from place i on, gives what storing all of n at entry gives.
use mathlib.Core.Path.{◌≡◌, sym, ap, ◌∙◌}
use Prim.Native.Nat.{ℕ, ◌+◌, ◌-◌}
use native.Mathlib.Omega.{arith}
use lib.ListN.{length-set}
use lib.Seq.{sets}
use Rattle.base.specs.LittleEndian.{little_endian}
use Rattle.base.proofs.LittleEndian.{store_lowest}
use Rattle.base.proofs.little_endian.put_le.Goals as goal

pub loop-i-init : goal.loop-i-init
loop-i-init c =
    let a = c.args in
    let start : a.at + 0 ≡ a.at = omega arith in
    let whole : a.size - 0 ≡ a.size = omega arith in
    record { long = cc; same = cc }

pub loop-i-preserved : goal.loop-i-preserved
loop-i-preserved c =
    let l = c.loop-i in
    let a = c.args in
    record {
      long = simp length-set l.invariant.long;
      same = store_lowest l.out a.at a.size l.i l.rest (omega arith) ∙ l.invariant.same;
    }

pub returns : goal.returns
unfolding little_endian
returns c =
    let l = c.loop-i in
    let a = c.args in
    let none : a.size - l.i ≡ 0 = omega arith in
    ap (λ (k : ℕ). sets l.out (a.at + l.i) (little_endian k l.rest)) (sym none) ∙ l.invariant.same
