-- `refusals::range_refused` meets its contract: the ways through it are how far its tests go.
use Rattle.base.proofs.Truth.{or_yes, or_no}
use mathlib.Core.Path.{sym, ap, ◌∙◌}
use Prim.Native.Nat.{ℕ}
use lib.Dec.{ltb}
use Rattle.walk_steps.specs.Refusals.{whole, bad_range}
use Rattle.walk_steps.proofs.Shorts.{same, below_zero, below}
use Rattle.walk_steps.proofs.refusals.range_refused.Goals as goal

pub returns-then-t-lt0 : goal.returns-then-t-lt0
unfolding bad_range
returns-then-t-lt0 c =
    let t = c.args.t in
    sym (or_yes _ (or_yes _ (below_zero t.node_index1 c.struct_told-1.given.1.1.0.1 c.if-t-lt0.true)))

pub returns-then-t : goal.returns-then-t
unfolding bad_range
returns-then-t c =
    let t = c.args.t in
    let fits = c.struct_told-2-1.given in
    let low = below_zero t.node_index1 fits.1.1.0.1 c.if-t-lt0.false in
    let order = below t.node_index2 t.node_index1 fits.1.1.1.0.1 fits.1.1.0.1 c.if-t.true in
    sym (or_yes _ (or_no _ low ∙ order))

pub returns : goal.returns
unfolding bad_range
returns c =
    let a = c.args in
    let t = a.t in
    let fits = c.struct_told-3-1.given in
    let low = below_zero t.node_index1 fits.1.1.0.1 c.if-t-lt0.false in
    let order = below t.node_index2 t.node_index1 fits.1.1.1.0.1 fits.1.1.0.1 c.if-t.false in
    let last = c.number.ensures.0 ∙ ap whole (same t.node_index2 fits.1.1.1.0.1) in
    ap (λ (n : ℕ). ltb a.nodes n) last ∙ sym (or_no _ (or_no _ low ∙ order))
