-- `rows::hits_in` meets its contract. The loop's invariant: `hits` counts the triangles before k that are struck.
use mathlib.Core.Path.{◌≡◌, sym, ap, ap₂, subst, ◌∙◌}
use Prim.Native.Nat.{ℕ, ◌+◌}
use lib.Dec.{eqb}
use native.Mathlib.Omega.{arith}
use Rattle.rays.specs.declared.rays.Facet.{Facet}
use Rattle.rays.specs.Steps.Counting.{count_to, Failed}
use Rattle.base.specs.Lists.{one_if}
use Rattle.rays.specs.Rays.{hits}
use Rattle.rays.specs.Steps.Rows.{struck}
use Rattle.rays.proofs.CountLaws.{together, count_more_lem, count_few}
use Rattle.base.proofs.ListLaws.{one_or_none}
use Rattle.rays.proofs.rows.hits_in.Goals as goal

pub overflow_add-hits : goal.overflow_add-hits
overflow_add-hits c =
    let a = c.args in
    let l = c.loop-k in
    omega (
      arith,
      c.one_if_none-hits.ensures,
      one_or_none (eqb (c.misses-missed.result + c.none_of-own.result) 0),
      count_few l.k (struck a.tri.now a.rows.now a.t a.i a.ray),
      l.invariant,
    )

pub loop-k-preserved : goal.loop-k-preserved
loop-k-preserved c =
    let a = c.args in
    let l = c.loop-k in
    let test = struck a.tri.now a.rows.now a.t a.i a.ray in
    let missed =
    subst (λ (f : Facet). Failed 7 (hits a.ray f) c.misses-missed.result)
    c.facet_at.ensures c.misses-missed.ensures in
    let one = c.one_if_none-hits.ensures ∙ ap one_if (together missed c.none_of-own.ensures).none in
    ap₂ ◌+◌ l.invariant one ∙ sym (count_more_lem l.k test)

pub returns : goal.returns
returns c =
    let a = c.args in
    let l = c.loop-k in
    let end : l.k ≡ a.t = omega arith in
    l.invariant ∙ ap (λ (k : ℕ). count_to k (struck a.tri.now a.rows.now a.t a.i a.ray)) end
