-- `queries::query` meets its contract: each way back is one case of `query_box`.
use Rattle.std.proofs.Common.{ℕ, ap, ◌∙◌, arith, le-ltb, lt-ltb}
use Rattle.math.specs.declared.aabb.Aabb.{Aabb}
use Rattle.entries.specs.Boxes.{box_at}
use Rattle.tree.specs.Pair.{box_values}
use Rattle.pairs.specs.Drawing.{below_of, at_box, query_box}
use Rattle.pairs.proofs.CountLaws.{chosen_first, chosen_second}
use Rattle.pairs.proofs.queries.query.Goals as goal

pub returns-then-k-lt6 : goal.returns-then-k-lt6
unfolding query_box
returns-then-k-lt6 c = c.wide.ensures ∙ chosen_first _ _ (lt-ltb _ 6 c.if-k-lt6.true)

pub returns-then-k-lt12 : goal.returns-then-k-lt12
unfolding query_box
returns-then-k-lt12 c =
    let start = c.args in
    let shape = start.shape in
    let place_is = c.place_of-place.ensures.result_value ∙ ap (λ (t : ℕ). below_of t shape.n) c.next.ensures in
    let box_is = c.box_of.ensures ∙ ap (λ (p : ℕ). box_values (box_at start.list.now p)) place_is in
    c.at_box.ensures
    ∙ ap (λ (b : Aabb). at_box start.k b shape.grain) box_is
    ∙ chosen_first _ _ (lt-ltb _ 12 c.if-k-lt12.true)
    ∙ chosen_second _ _ (le-ltb start.k 6 (omega arith))

pub returns : goal.returns
unfolding query_box
returns c =
    let k = c.args.k in
    c.drawn_box.ensures ∙ chosen_second _ _ (le-ltb k 12 (omega arith)) ∙ chosen_second _ _ (le-ltb k 6 (omega arith))
