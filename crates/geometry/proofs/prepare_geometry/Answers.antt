-- `prepare_geometry` meets its contract: a check that fails is the answer, and else what is prepared of a mesh that passed is the definition's.
use mathlib.Core.Path.{sym, ◌∙◌}
use Rattle.std.proofs.lemmas.Result.{err_from_is_err_and}
use Rattle.prepared.proofs.Answering.{geometry_refused}
use Rattle.geometry.proofs.prepare_geometry.Goals as goal

pub returns-in_err-refusal_as : goal.returns-in_err-refusal_as
returns-in_err-refusal_as c =
    let p = err_from_is_err_and c.from_residual.result c.from_residual.ensures.1 in
    rw (p.1, p.2) (geometry_refused _ _ _ _ _ (sym c.in_err-refusal_as.was ∙ c.refusal_as.ensures))

pub prepare_checked-requires : goal.prepare_checked-requires
prepare_checked-requires c = record { passed = sym c.in_ok-refusal_as.was ∙ c.refusal_as.ensures }

pub returns : goal.returns
returns c = c.prepare_checked.ensures
