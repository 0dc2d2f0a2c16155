-- `check::begin` meets its contract: with a corner missing no rows are asked; else they are filled.
use mathlib.Core.Path.{sym, ◌∙◌}
use mathlib.Core.Bool.{true≢false}
use Rattle.rays.proofs.CheckLaws.{fillable}
use Rattle.rays.proofs.check.begin.Goals as goal

pub returns-then-missing_corner : goal.returns-then-missing_corner
returns-then-missing_corner c = record { answer = sym c.if-missing_corner.true ∙ c.missing_corner.ensures; filled = λ e. absurd (true≢false e) }

pub put_rows-requires : goal.put_rows-requires
put_rows-requires c =
    fillable _ _ c.args.v _ _ (sym c.missing_corner.ensures ∙ c.if-missing_corner.false) c.requires.0 c.requires.1

pub returns : goal.returns
returns c =
    record {
      answer = sym c.if-missing_corner.false ∙ c.missing_corner.ensures;
      filled = λ _. c.put_rows.ensures;
    }
