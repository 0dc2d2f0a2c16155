-- `slices::walk_core` meets its contract: the ways through it are the outcomes of its checks.
use Rattle.std.specs.Prelude.{◌≡◌, false, length}
use mathlib.Core.Path.{sym, ◌∙◌}
use Rattle.walk.specs.Walks.{too_many, too_short}
use Rattle.walk.proofs.Answers as answers
use Rattle.walk.proofs.slices.walk_core.Goals as goal

pub returns-then-too_many : goal.returns-then-too_many
returns-then-too_many c =
    let a = c.args in
    answers.many a.query a.cen a.inverse a.sizes a.node_bytes.now a.tree_bytes.now a.out.now _
    (sym c.too_many.ensures ∙ c.if-too_many.true) c.unread.ensures.0 c.unread.ensures.1

pub too_short-requires : goal.too_short-requires
too_short-requires c =
    let few : too_many c.args.sizes ≡ false = sym c.too_many.ensures ∙ c.if-too_many.false in
    let f = answers.few c.args.sizes few in
    (f.nodes, f.trees)

pub returns-then-too_short : goal.returns-then-too_short
returns-then-too_short c =
    let few : too_many c.args.sizes ≡ false = sym c.too_many.ensures ∙ c.if-too_many.false in
    let a = c.args in
    answers.short a.query a.cen a.inverse a.sizes a.node_bytes.now a.tree_bytes.now a.out.now few _
    (sym c.too_short.ensures ∙ c.if-too_short.true) c.unread-then-too_short.ensures.0 c.unread-then-too_short.ensures.1

pub run-s-requires : goal.run-s-requires
run-s-requires c =
    let few : too_many c.args.sizes ≡ false = sym c.too_many.ensures ∙ c.if-too_many.false in
    let long : too_short c.args.sizes (length c.args.node_bytes.now) (length c.args.tree_bytes.now) (length c.args.out.now) ≡ false = sym c.too_short.ensures ∙ c.if-too_short.false in
    let a = c.args in
    let r = answers.ready a.sizes a.node_bytes.now a.tree_bytes.now a.out.now few long in
    record { steppable = r.fits; sizes_in_bounds = r.places }

pub returns : goal.returns
returns c =
    let few : too_many c.args.sizes ≡ false = sym c.too_many.ensures ∙ c.if-too_many.false in
    let long : too_short c.args.sizes (length c.args.node_bytes.now) (length c.args.tree_bytes.now) (length c.args.out.now) ≡ false = sym c.too_short.ensures ∙ c.if-too_short.false in
    let a = c.args in
    answers.answered a.query a.cen a.inverse a.sizes a.node_bytes.now a.tree_bytes.now a.out.now
    few long _ _ _ _
    c.quantise_box-q.ensures c.run-s.ensures c.answer.ensures.0 c.answer.ensures.1
