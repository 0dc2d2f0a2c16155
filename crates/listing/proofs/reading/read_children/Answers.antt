-- `reading::read_children` meets its contract: the first i records are read.
use Rattle.listing.proofs.Children.{no_child, child_next, all_children}
use native.Mathlib.Omega.{arith}
use Rattle.listing.proofs.reading.read_children.Goals as goal

pub loop-i-init : goal.loop-i-init
loop-i-init c = no_child c.args.bytes.now c.args.entries.now c.args.n

pub put_child-requires : goal.put_child-requires
put_child-requires c = (omega arith, omega arith)

pub loop-i-preserved : goal.loop-i-preserved
loop-i-preserved c =
    let a = c.args in
    let l = c.loop-i in
    child_next a.bytes.now a.entries.now l.entries _ l.i a.n l.invariant (omega arith) c.requires.0 c.put_child.ensures

pub returns : goal.returns
returns c =
    let a = c.args in
    let l = c.loop-i in
    all_children a.bytes.now a.entries.now l.entries l.i a.n l.invariant (omega arith)
