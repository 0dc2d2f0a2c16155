-- `refusal_as`: the kind is the one that the bound names, or the check fails (CheckLaws).
use mathlib.Core.Path.{sym, ap, ◌∙◌}
use Rattle.std.specs.Prelude.{Ok}
use Rattle.std.proofs.lemmas.Result.{err_from_is_err_and}
use Rattle.meshes.proofs.CheckLaws as laws
use Rattle.meshes.proofs.checking.refusal_as.Goals as goal

pub returns-in_err-try_from : goal.returns-in_err-try_from
returns-in_err-try_from c =
    let p = err_from_is_err_and c.from_residual.result c.from_residual.ensures.1 in
    rw (p.1, p.2) (laws.of_none _ _ _ _ _ _ _ (sym c.try_from.ensures ∙ c.in_err-try_from.was))

pub returns-then-differ : goal.returns-then-differ
returns-then-differ c =
    let named = c.in_ok-try_from.field-0 in
    laws.of_other _ _ _ _ _ c.args.kind named (sym c.try_from.ensures ∙ c.in_ok-try_from.was) (c.differ.ensures.0 c.if-differ.true)

pub returns : goal.returns
returns c =
    let named = c.in_ok-try_from.field-0 in
    let same = c.differ.ensures.1 c.if-differ.false in
    c.refusal.ensures
    ∙ laws.of_own _ _ _ _ _ c.args.kind (sym c.try_from.ensures ∙ c.in_ok-try_from.was ∙ ap Ok same)
