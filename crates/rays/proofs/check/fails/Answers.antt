-- `check::fails` meets its contract: the vertex did not move, or the hits decide.
use mathlib.Core.Path.{◌∙◌}
use Rattle.rays.specs.Checks.{way_back}
use Rattle.rays.specs.Steps.Rows.{struck}
use Rattle.rays.proofs.CountLaws.{count_few}
use Rattle.rays.proofs.CheckLaws.{unmoved, by_hits}
use native.Mathlib.Omega.{arith}
use Rattle.rays.proofs.check.fails.Goals as goal

pub returns-then-ray : goal.returns-then-ray
returns-then-ray c =
    let a = c.args in
    let way =
    c.way_back-ray.ensures ∙ (λ i. way_back (c.vertex_at.ensures i)
    (c.vertex_at-2.ensures i)) in
    unmoved a.tri.now a.t a.old.now a.new.now a.i c.way_back-ray.result way c.if-ray.true

pub hits_in-before-requires : goal.hits_in-before-requires
hits_in-before-requires c = c.requires.0.lent.old_rows

pub hits_in-after-requires : goal.hits_in-after-requires
hits_in-after-requires c = c.requires.0.lent.new_rows

pub overflow_add-result : goal.overflow_add-result
overflow_add-result c =
    let a = c.args in
    let ray = c.way_back-ray.result in
    omega (
      arith,
      c.hits_in-before.ensures,
      c.hits_in-after.ensures,
      count_few a.t (struck a.tri.now a.olds.now a.t a.i ray),
      count_few a.t (struck a.tri.now a.news.now a.t a.i ray),
      c.requires.0.lent.old_rows.few,
    )

pub returns : goal.returns
returns c =
    let a = c.args in
    let way =
    c.way_back-ray.ensures ∙ (λ i. way_back (c.vertex_at.ensures i)
    (c.vertex_at-2.ensures i)) in
    let ready = c.requires.0 in
    by_hits a.tri.now a.t a.old.now a.new.now a.i c.way_back-ray.result way c.if-ray.false
    a.olds.now a.news.now
    ready.old_filled ready.new_filled c.hits_in-before.result c.hits_in-after.result c.hits_in-before.ensures c.hits_in-after.ensures
