-- `faces::put_rows` meets its contract. The loop's invariant: the rows hold the triangles before k, and are as many as at entry.
use mathlib.Core.Path.{◌≡◌, refl, subst, sym, ap, ◌∙◌}
use Prim.Native.Nat.{ℕ, ◌+◌, ◌*◌, ◌≤◌, ◌<◌}
use mathlib.Core.List.{List}
use lib.ListN.{length}
use lib.Ieee.{Float}
use native.Mathlib.Omega.{arith}
use Rattle.rays.specs.Rays.{facet_of}
use Rattle.rays.specs.Steps.Rows.{Filled}
use Rattle.rays.proofs.RowLaws.{filled_more, length_facet}
use Rattle.rays.proofs.faces.put_rows.Goals as goal

pub loop-k-init : goal.loop-k-init
loop-k-init c = record { same_length = refl; filled = record { facets = λ k h. absurd (omega arith) } }

pub overflow_cast-tri : goal.overflow_cast-tri
overflow_cast-tri c = omega (arith, c.shared_slice_known-in-loop-k-1.given c.loop-k.k)

pub vertex_at-a-requires : goal.vertex_at-a-requires
vertex_at-a-requires c =
    omega (arith, c.requires.vertices_in, c.requires.inside c.loop-k.k (omega arith))

pub overflow_cast-tri-in-loop-k : goal.overflow_cast-tri-in-loop-k
overflow_cast-tri-in-loop-k c =
    omega (
      arith,
      c.shared_slice_known-in-loop-k-2-1.given (c.args.t + c.loop-k.k),
    )

pub vertex_at-b-requires : goal.vertex_at-b-requires
vertex_at-b-requires c =
    omega (arith, c.requires.vertices_in, c.requires.inside (c.args.t + c.loop-k.k) (omega arith))

pub overflow_cast-tri-in-loop-k-2 : goal.overflow_cast-tri-in-loop-k-2
overflow_cast-tri-in-loop-k-2 c =
    omega (
      arith,
      c.shared_slice_known-in-loop-k-3-1.given (2 * c.args.t + c.loop-k.k),
    )

pub vertex_at-c-requires : goal.vertex_at-c-requires
vertex_at-c-requires c =
    omega (arith, c.requires.vertices_in, c.requires.inside (2 * c.args.t + c.loop-k.k) (omega arith))

pub put_facet-requires : goal.put_facet-requires
put_facet-requires c = (
  omega (arith, c.requires.rows_in.coordinates, c.loop-k.invariant.same_length),
  omega arith,
)

pub loop-k-preserved : goal.loop-k-preserved
loop-k-preserved c =
    let a = c.args in
    let l = c.loop-k in
    let room : 9 * a.t ≤ length l.rows = omega (arith, c.requires.rows_in.coordinates, l.invariant.same_length) in
    let more : l.k < a.t = omega arith in
    let f = c.facet.result in
    let f-is =
    c.facet.ensures
    ∙ (λ i. facet_of (c.vertex_at-a.ensures i)
    (c.vertex_at-b.ensures i)
    (c.vertex_at-c.ensures i)) in
    let put = c.put_facet.ensures in
    record {
      same_length = ap length put ∙ length_facet l.rows a.t l.k f room (omega arith) ∙ l.invariant.same_length;
      filled =
          subst (λ (r : List Float). Filled a.tri.now a.t a.points.now r (l.k + 1)) (sym put)
          (filled_more l.rows a.t l.k f room (omega arith) a.tri.now a.points.now l.invariant.filled f-is);
    }

pub returns : goal.returns
returns c =
    let a = c.args in
    let l = c.loop-k in
    let end : l.k ≡ a.t = omega arith in
    subst (λ (k : ℕ). Filled a.tri.now a.t a.points.now l.rows k) end l.invariant.filled
