-- `some_shadows` asks each in turn.
use Prim.Native.Nat.{◌<◌}
use mathlib.Core.Path.{◌∙◌}
use borrow.Author.Tests.{tests}
use Rattle.std.proofs.Common.{rules, arith}
use Rattle.std.proofs.lemmas.Grind.{get_or_default_zero}
use Rattle.std.proofs.lemmas.Iterator.{YieldsList-from_slice}
use Rattle.std.proofs.lemmas.Iterator.Adapters.{serves_from_places}
use Rattle.std.proofs.lemmas.Iterator.Search.{any_from_yields_List}
use Rattle.base.proofs.EveryLaws.{every_at}
use Rattle.far_order.specs.Rows.{shadowed_at}
use Rattle.maxima.proofs.Keeping.{any_is_some}
use Rattle.maxima.proofs.kept.some_shadows.Goals as goal

pub any-requires-clause-callable : goal.any-requires-clause-callable
any-requires-clause-callable c =
    let a = c.args in
    serves_from_places (YieldsList-from_slice a.kept.now cc) (λ x q k. search rules)
    (λ x k h e.
    let w = every_at (λ p. p < a.n) a.kept.now k c.requires.below h in
    let below : x.now < a.n = omega (arith, get_or_default_zero a.kept.now k x.now h) in
    search rules)

pub returns : goal.returns
returns c =
    let a = c.args in
    any_from_yields_List (shadowed_at a.n a.rows.now a.i) _ _ _ c.any.ensures.ran
    (YieldsList-from_slice a.kept.now cc) (λ x b q k. search (rules, tests))
    ∙ any_is_some (shadowed_at a.n a.rows.now a.i) a.kept.now
