-- `check::check_shrunk` meets its contract: the rows of the shrunk triangles are filled, then the vertices are gone through.
use mathlib.Core.Path.{refl, sym, ◌∙◌}
use Rattle.rays.proofs.SomeLaws.{passes_by_rows}
use Rattle.rays.proofs.CheckLaws.{fillable, refilled}
use Rattle.rays.proofs.check.check_shrunk.Goals as goal

pub put_rows-requires : goal.put_rows-requires
put_rows-requires c =
    fillable _ _ c.args.v _ _ (sym c.requires.1.answer) c.requires.0.new_rows c.requires.0.new_vertices

pub none_fails-requires : goal.none_fails-requires
none_fails-requires c =
    refilled c.requires.0 (c.requires.1.filled refl) _ c.put_rows.auto.rows c.put_rows.ensures

pub returns : goal.returns
returns c =
    λ cs n laid.
    c.none_fails.ensures ∙ passes_by_rows laid c.args.old.now c.args.new.now c.args.v (sym c.requires.1.answer)
