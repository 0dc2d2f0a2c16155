-- `refusals::node_refused` meets its contract: the ways through it are how far its tests go.
use Rattle.base.proofs.Truth.{or_yes, or_no, when, unless}
use mathlib.Core.Path.{sym, ap, ap₂, ◌∙◌}
use Prim.Native.Nat.{ℕ, ◌+◌, max}
use lib.Dec.{ltb}
use Rattle.walk_steps.specs.Refusals.{whole, bad_node}
use Rattle.walk_steps.proofs.Shorts.{same, below_zero}
use Rattle.walk_steps.proofs.refusals.node_refused.Goals as goal

pub returns-then-n-lt0 : goal.returns-then-n-lt0
unfolding bad_node
returns-then-n-lt0 c =
    let n = c.args.n in
    sym (or_yes _ (or_yes _ (below_zero n.item_count c.struct_told-1.given.1.1.1.0.1 c.if-n-lt0.true)))

pub returns-then-n-lt0-2 : goal.returns-then-n-lt0-2
unfolding bad_node
returns-then-n-lt0-2 c =
    let n = c.args.n in
    let t = c.struct_told-2-1.given in
    let count = below_zero n.item_count t.1.1.1.0.1 c.if-n-lt0.false in
    let id = below_zero n.item_id t.1.1.0.1 c.if-n-lt0-2.true in
    sym (or_yes _ (or_no _ count ∙ id))

pub returns-then-count-eq0 : goal.returns-then-count-eq0
unfolding bad_node
returns-then-count-eq0 c =
    let a = c.args in
    let n = a.n in
    let t = c.struct_told-2-1.given in
    let count = below_zero n.item_count t.1.1.1.0.1 c.if-n-lt0.false in
    let id = below_zero n.item_id t.1.1.0.1 c.if-n-lt0-2.false in
    let none = sym (c.number-count.ensures.0 ∙ ap whole (same n.item_count t.1.1.1.0.1)) ∙ c.if-count-eq0.true in
    let on = c.skip.ensures.0 ∙ ap (λ (n : ℕ). max n 1) (ap whole (same n.item_id t.1.1.0.1)) in
    ap (λ (n : ℕ). ltb a.last (a.at + n)) on ∙ sym (or_no _ (or_no _ count ∙ id) ∙ when _ _ _ none)

pub returns-else-count-eq0 : goal.returns-else-count-eq0
unfolding bad_node
returns-else-count-eq0 c =
    let a = c.args in
    let n = a.n in
    let t = c.struct_told-2-1.given in
    let count = below_zero n.item_count t.1.1.1.0.1 c.if-n-lt0.false in
    let id = below_zero n.item_id t.1.1.0.1 c.if-n-lt0-2.false in
    let many = c.number-count.ensures.0 ∙ ap whole (same n.item_count t.1.1.1.0.1) in
    let p = c.number-id.ensures.0 ∙ ap whole (same n.item_id t.1.1.0.1) in
    ap₂ (λ (a' b : ℕ). ltb a.items (a' + b)) p many ∙ sym (or_no _ (or_no _ count ∙ id) ∙ unless _ _ _ (λ e. c.if-count-eq0.false (many ∙ e)))
