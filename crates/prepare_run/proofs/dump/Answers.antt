-- `dump`: an input that is not refused is whole.
use mathlib.Core.Path.{sym, ap, ◌∙◌}
use Rattle.mesh_input.specs.Input.{length_of}
use Rattle.mesh_input.proofs.Laws.{whole}
use native.Mathlib.Omega.{arith}
use Rattle.prepare_run.proofs.dump.Goals as goal

pub bound_of-requires : goal.bound_of-requires
bound_of-requires c =
    let w = whole c.args.input.now (sym c.check.ensures ∙ c.in-Ok.is) in
    omega (arith, w.size)

pub counts_of-requires : goal.counts_of-requires
counts_of-requires c =
    let w = whole c.args.input.now (sym c.check.ensures ∙ c.in-Ok.is) in
    omega (arith, w.size)

pub dump_counted-requires : goal.dump_counted-requires
dump_counted-requires c =
    let w = whole c.args.input.now (sym c.check.ensures ∙ c.in-Ok.is) in
    (ap length_of c.counts_of.ensures ∙ w.size, w.few)
