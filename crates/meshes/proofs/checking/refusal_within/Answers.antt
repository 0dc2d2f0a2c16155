-- `refusal_within`: the tests are the definition's, in its order (CheckLaws).
use mathlib.Core.Path.{sym, ap, ◌∙◌}
use Rattle.std.proofs.Common.{◌≤◌, arith}
use borrow.Author.Tests.{lt-ltb, le-ltb}
use lib.Dec.{ltb}
use Rattle.meshes.proofs.CheckLaws.{unknown_polygon, too_full, no_end, all_well}
use Rattle.meshes.proofs.checking.refusal_within.Goals as goal

pub returns-then-not-kinds_known : goal.returns-then-not-kinds_known
returns-then-not-kinds_known c = unknown_polygon _ _ _ _ (sym c.kinds_known.ensures ∙ c.if-not-kinds_known.true)

pub returns-then-count_materials-gt255 : goal.returns-then-count_materials-gt255
returns-then-count_materials-gt255 c =
    too_full _ _ _ _ (sym c.kinds_known.ensures ∙ c.if-not-kinds_known.false)
    (ap (ltb 255) (sym c.count_materials.ensures) ∙ lt-ltb _ _ c.if-count_materials-gt255.true)

pub returns-then-margin_endless : goal.returns-then-margin_endless
returns-then-margin_endless c =
    let most : c.count_materials.result ≤ 255 = omega arith in
    let few = ap (ltb 255) (sym c.count_materials.ensures) ∙ le-ltb _ _ most in
    no_end _ _ _ _ (sym c.kinds_known.ensures ∙ c.if-not-kinds_known.false) few (sym c.margin_endless.ensures ∙ c.if-margin_endless.true)

pub returns : goal.returns
returns c =
    let most : c.count_materials.result ≤ 255 = omega arith in
    let few = ap (ltb 255) (sym c.count_materials.ensures) ∙ le-ltb _ _ most in
    all_well _ _ _ _ (sym c.kinds_known.ensures ∙ c.if-not-kinds_known.false) few (sym c.margin_endless.ensures ∙ c.if-margin_endless.false)
