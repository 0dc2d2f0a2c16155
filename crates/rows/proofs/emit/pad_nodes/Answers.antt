-- `emit::pad_nodes` meets its contract. The loop's invariant: the records from `from` up to i are padding.
use Prim.Native.Nat.{ℕ, ◌-◌, ◌*◌}
use mathlib.Core.Path.{◌≡◌, ap, ◌∙◌}
use lib.Seq.{sets}
use Rattle.rows.specs.Output.{pad_bytes}
use Rattle.rows.proofs.emit.Writing.{padding_begins, pad_next}
use native.Mathlib.Omega.{arith}
use Rattle.rows.proofs.emit.pad_nodes.Goals as goal

pub loop-i-init : goal.loop-i-init
loop-i-init c = padding_begins _ _ _ c.requires.0

pub pad_node-requires : goal.pad_node-requires
pad_node-requires c = tt

pub loop-i-preserved : goal.loop-i-preserved
loop-i-preserved c =
    let l = c.loop-i in
    pad_next _ _ _ _ _ _ _ l.invariant (omega arith) c.pad_node.ensures c.put_node.ensures

pub returns : goal.returns
returns c =
    let a = c.args in
    let l = c.loop-i in
    let end : l.i ≡ a.upto = omega arith in
    l.invariant.held ∙ ap (λ (k : ℕ). sets a.node_bytes.now (16 * a.from) (pad_bytes (k - a.from))) end
