-- `judge::meets_at` meets its contract: the box of an entry that is not present is not compared.
use Rattle.std.proofs.Common.{sym, ap, ◌∙◌}
use Rattle.math.specs.declared.aabb.Aabb.{Aabb}
use Rattle.walk_steps.specs.Boxes.{meets_box}
use Rattle.pairs.specs.Judging.{meets_at}
use Rattle.pairs.proofs.CountLaws.{and_yes, and_no}
use Rattle.pairs.proofs.judge.meets_at.Goals as goal

pub returns-then-is_present : goal.returns-then-is_present
unfolding meets_at
returns-then-is_present c =
    let box_is = ap (λ (b : Aabb). meets_box b c.args.query) c.box_of.ensures in
    c.meets_box.ensures ∙ box_is ∙ and_yes _ (sym c.is_present.ensures ∙ c.if-is_present.true)

pub returns-else-is_present : goal.returns-else-is_present
unfolding meets_at
returns-else-is_present c = c.is_present.ensures ∙ and_no _ (sym c.is_present.ensures ∙ c.if-is_present.false)
