-- `build_materials`: the checks in their order, and then the list.
use mathlib.Core.Path.{sym, ◌∙◌}
use Rattle.materials.proofs.building.Answering.{few, room, too_many, too_small, served}
use Rattle.materials.proofs.building.build_materials.Goals as goal

pub returns-then-too_many : goal.returns-then-too_many
returns-then-too_many c = too_many _ _ _ _ _ _ (sym c.too_many.ensures ∙ c.if-too_many.true)

pub too_short-requires : goal.too_short-requires
too_short-requires c =
    few c.args.n _ (sym c.too_many.ensures ∙ c.if-too_many.false)

pub returns-then-too_short : goal.returns-then-too_short
returns-then-too_short c =
    too_small _ _ _ _ _ _ (sym c.too_many.ensures ∙ c.if-too_many.false) (sym c.too_short.ensures ∙ c.if-too_short.true)

pub write_materials-count-requires : goal.write_materials-count-requires
write_materials-count-requires c =
    let w = room _ _ _ (sym c.too_short.ensures ∙ c.if-too_short.false) in
    record {
      numbered = w.0;
      few = few c.args.n _ (sym c.too_many.ensures ∙ c.if-too_many.false);
      given = w.1;
      for_list = w.2;
      for_indices = w.3;
    }

pub returns : goal.returns
returns c =
    let most = sym c.too_many.ensures ∙ c.if-too_many.false in
    served _ _ _ _ _ _ _ _ _ c.write_materials-count.ensures most (sym c.too_short.ensures ∙ c.if-too_short.false)
