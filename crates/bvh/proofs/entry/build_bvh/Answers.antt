-- `entry::build_bvh` meets its contract: what the core answers over the words, the entry point answers over the items.
use Rattle.std.proofs.Common.{◌≡◌, ◌≤◌, ◌+◌, ◌*◌, ◌<◌, ◌∙◌, ℕ, arith, length, List, ap, subst, get_or, take}
use lib.Seq.{sets}
use Rattle.bvh.specs.Entry.{taken_of, entries_in, outputs, lent, lengths_of, AnsweredBy}
use Rattle.bvh.specs.Items.{absent, item_words}
use Rattle.rows.specs.Ranges.{range_limit}
use Rattle.bvh.proofs.ItemWords.{apart, apart_next}
use Rattle.bvh.proofs.EntryWords.{taken_fits, answers}
use Rattle.bvh.proofs.entry.build_bvh.Goals as goal

pub put_item-requires : goal.put_item-requires
put_item-requires c = omega (arith, taken_fits (length c.args.items.now) (length c.args.entries.now), c.loop-i.auto.entries)

pub loop-i-preserved : goal.loop-i-preserved
loop-i-preserved c =
    let items = c.args.items.now in
    let ws = c.args.entries.now in
    let i = c.loop-i.i in
    let fits = taken_fits (length items) (length ws) in
    let within : i < length items = omega arith in
    let room : 7 * i + 7 ≤ length ws = omega arith in (
      omega arith,
      c.loop-i.invariant.1,
      c.put_item.ensures ∙ ap (λ (l : List ℕ). sets l (7 * i) (item_words (get_or items i absent))) c.loop-i.invariant.2 ∙ apart_next items ws i within room,
    )

pub returns : goal.returns
returns c =
    let done : c.loop-i.i ≡ taken_of (length c.args.items.now) (length c.args.entries.now) = omega arith in
    answers range_limit c.args.items.now c.args.threshold c.args.entries.now c.args.places.now c.args.temp.now c.args.stack.now c.args.rows.now c.args.centres.now _ _ _
    (subst (λ (w : List ℕ). AnsweredBy range_limit (entries_in (length c.args.items.now) (take (7 * length c.args.items.now) w)) c.args.threshold (lengths_of (outputs c.args.node_bytes.now c.args.tree_bytes.now c.args.order.now) (lent w c.args.places.now c.args.temp.now c.args.stack.now c.args.rows.now c.args.centres.now)) c.build_core.result (outputs c.args.node_bytes.now c.args.tree_bytes.now c.args.order.now) (outputs c.build_core.new.node_bytes c.build_core.new.tree_bytes c.build_core.new.order))
    (c.loop-i.invariant.2 ∙ ap (apart c.args.items.now c.args.entries.now) done) c.build_core.ensures)
