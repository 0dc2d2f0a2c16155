-- `draw::corner` meets its contract: each axis by its number.
use Rattle.std.proofs.Common.{ℕ, ap, ◌∙◌}
use Rattle.pairs.specs.Drawing.{next_of, whole_of, corner_of}
use Rattle.pairs.proofs.draw.corner.Goals as goal

pub returns : goal.returns
unfolding corner_of
returns c =
    let start = c.args in
    let a = c.next-a.ensures in
    let b = c.next-b.ensures ∙ ap next_of a in
    let d = c.next.ensures ∙ ap next_of b in
    λ i. record {
      x = (c.whole.ensures ∙ ap (λ (k : ℕ). whole_of k start.x) a) i;
      y = (c.whole-2.ensures ∙ ap (λ (k : ℕ). whole_of k start.y) b) i;
      z = (c.whole-3.ensures ∙ ap (λ (k : ℕ). whole_of k start.z) d) i;
    }
