-- `refusal`: the tests are the definition's, in its order (CheckLaws).
use native.Mathlib.Omega.{arith}
use mathlib.Core.Path.{sym, ◌∙◌}
use Rattle.std.proofs.lemmas.Result.{err_from_is_err_and}
use Rattle.meshes.proofs.CheckLaws as laws
use Rattle.meshes.proofs.checking.refusal.Goals as goal

pub returns-in_err-try_from : goal.returns-in_err-try_from
returns-in_err-try_from c =
    let p = err_from_is_err_and c.from_residual.result c.from_residual.ensures.1 in
    rw (p.1, p.2) (laws.unknown_number _ _ _ _ _ _ (sym c.try_from.ensures ∙ c.in_err-try_from.was))

pub returns-then-too_many : goal.returns-then-too_many
returns-then-too_many c =
    laws.too_many _ _ _ _ _ (laws.known_number c.args.bound.kind _ (sym c.try_from.ensures ∙ c.in_ok-try_from.was))
    (sym c.too_many.ensures ∙ c.if-too_many.true)

pub returns-then-too_short : goal.returns-then-too_short
returns-then-too_short c =
    laws.too_small _ _ _ _ _ (laws.known_number c.args.bound.kind _ (sym c.try_from.ensures ∙ c.in_ok-try_from.was))
    (sym c.too_many.ensures ∙ c.if-too_many.false) (sym c.too_short.ensures ∙ c.if-too_short.true)

pub refusal_within-requires : goal.refusal_within-requires
refusal_within-requires c =
    let m = c.requires in
    let e = laws.enough _ _ (sym c.too_short.ensures ∙ c.if-too_short.false) in
    record {
      few = laws.few _ (sym c.too_many.ensures ∙ c.if-too_many.false);
      records = omega (arith, e.for_polygons, m.polygons_are);
      numbered = omega (arith, e.for_numbers, m.numbers_are);
      given = omega (arith, e.for_mats, m.mats_are);
    }

pub returns : goal.returns
returns c =
    c.refusal_within.ensures
    ∙ laws.rest _ _ _ _ _ (laws.known_number c.args.bound.kind _ (sym c.try_from.ensures ∙ c.in_ok-try_from.was))
    (sym c.too_many.ensures ∙ c.if-too_many.false) (sym c.too_short.ensures ∙ c.if-too_short.false)
