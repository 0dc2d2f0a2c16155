-- `groups::paste` meets its contract. The loop's invariant: the first j places are copied.
use native.Mathlib.Omega.{arith}
use native.Mathlib.Numerals.{add-one}
use mathlib.Core.Path.{◌≡◌, refl}
use lib.ListN.{length-set}
use lib.Seq.{paste-zero, paste-suc}
use Rattle.split.proofs.groups.paste.Goals as goal

pub loop-j-init : goal.loop-j-init
loop-j-init c = (paste-zero c.args.dst.now c.args.at c.args.src.now, refl)

pub loop-j-preserved : goal.loop-j-preserved
loop-j-preserved c =
    let l = c.loop-j in
    let a = c.args in (
      rw (add-one, l.invariant.0) (paste-suc a.dst.now a.at a.src.now l.j 0 (omega arith) (omega arith)),
      simp length-set l.invariant.1,
    )

pub returns : goal.returns
returns c =
    let l = c.loop-j in
    let e : l.j ≡ c.args.n = omega arith in
    rw (← e) l.invariant.0
