-- `put_children`, by the invariant `Putting`.
use Rattle.std.specs.Prelude.{◌≡◌}
use Rattle.composite.proofs.BoxLaws.{start, one_more}
use native.Mathlib.Omega.{arith}
use Rattle.composite.proofs.boxes.put_children.Goals as goal

pub loop-k-init : goal.loop-k-init
loop-k-init c = (start _ _, omega arith)

pub put_child-requires : goal.put_child-requires
put_child-requires c =
    let l = c.loop-k in
    let p = c.requires in
    (omega (arith, l.invariant.0.len, p.0), omega (arith, p.1))

pub loop-k-preserved : goal.loop-k-preserved
loop-k-preserved c =
    (one_more _ _ _ _ _ c.loop-k.invariant.0 (omega (arith, c.requires.0)) c.put_child.ensures, omega arith)

pub returns : goal.returns
returns c =
    let l = c.loop-k in
    let e : l.k ≡ c.args.n = omega arith in
    rw e at l.invariant.0.put
