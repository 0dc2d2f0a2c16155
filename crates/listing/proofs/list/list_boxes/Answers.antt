-- `list::list_boxes` meets its contract: the text of each case is put at the start of the buffer.
use Rattle.listing.proofs.Whole.{whole_text, over_limit, ragged, served}
use native.Mathlib.Omega.{arith}
use Rattle.listing.proofs.list.list_boxes.Goals as goal

pub returns-then-input-gt8192 : goal.returns-then-input-gt8192
returns-then-input-gt8192 c = whole_text (over_limit c.args.input.now (omega arith)) (omega arith) c.put_refusal.ensures

pub returns-then-input-ne0 : goal.returns-then-input-ne0
returns-then-input-ne0 c =
    let text = ragged c.args.input.now (omega arith) c.if-input-ne0.true in
    whole_text text (omega arith) c.put_refusal-then-input-ne0.ensures

pub returns : goal.returns
returns c =
    let text = served c.args.input.now (omega arith) c.if-input-ne0.false in
    whole_text text (omega arith) c.put_children.ensures
