-- `vertex::gather` meets its contract. The loop's invariant: the first k + 1 normals are gathered.
use mathlib.Core.Path.{◌≡◌, refl, sym, ap, subst, ◌∙◌}
use Prim.Native.Nat.{ℕ, ◌+◌, ◌<◌}
use native.Mathlib.Numerals.{add-one}
use mathlib.Core.List.{List}
use lib.ListN.{length}
use lib.Ieee.{Float}
use native.Mathlib.Omega.{arith}
use Rattle.rings.specs.Steps.Gathering.{gathered, Gathered}
use Rattle.rings.specs.Steps.Stored.{normal_at}
use Rattle.rings.proofs.NormalLaws.{length_normal, normal_more}
use Rattle.rings.proofs.vertex.gather.Goals as goal

pub normal_at-requires : goal.normal_at-requires
normal_at-requires c = c.requires.0

pub put_normal-requires : goal.put_normal-requires
put_normal-requires c = omega (arith, c.requires.2)

pub loop-k-init : goal.loop-k-init
loop-k-init c =
    let a = c.args in
    let put = c.put_normal.ensures in
    let want = gathered a.normals.now a.poly a.ring.now in
    record {
      same_length = refl;
      room = omega (arith, c.requires.2, c.put_normal.auto.ns);
      there =
          subst (λ (fs : List Float). Gathered a.normals.now a.poly a.ring.now 0 fs) (sym put)
          (record {
            normals_are = normal_more a.ns.now 0 c.normal_at.result want (omega (arith, c.requires.2))
                (λ k h. absurd (omega arith)) c.normal_at.ensures;
          });
    }

pub overflow_add-k : goal.overflow_add-k
overflow_add-k c =
    omega (
      arith,
      c.requires.2,
      c.loop-k.invariant.room,
      c.well_formed,
    )

pub bounds-ring-k : goal.bounds-ring-k
bounds-ring-k c =
    omega (
      arith,
      c.requires.1,
    )

pub normal_at-requires-in-loop-k : goal.normal_at-requires-in-loop-k
normal_at-requires-in-loop-k c =
    omega (arith, c.requires.3 c.loop-k.k (omega arith), c.wide.ensures)

pub put_normal-requires-in-loop-k : goal.put_normal-requires-in-loop-k
put_normal-requires-in-loop-k c = omega (arith, c.loop-k.invariant.room)

pub loop-k-preserved : goal.loop-k-preserved
loop-k-preserved c =
    let a = c.args in
    let l = c.loop-k in
    let put = c.put_normal-in-loop-k.ensures in
    let n = c.normal_at-in-loop-k.result in
    let n-is = c.normal_at-in-loop-k.ensures ∙ ap (normal_at a.normals.now) c.wide.ensures in
    let want = gathered a.normals.now a.poly a.ring.now in
    let more : l.k < a.count = omega arith in
    record {
      same_length = ap length put ∙ length_normal l.ns (l.k + 1) n ∙ l.invariant.same_length;
      room = omega (arith, l.invariant.room, ap length put, length_normal l.ns (l.k + 1) n);
      there =
          subst (λ (fs : List Float). Gathered a.normals.now a.poly a.ring.now (l.k + 1) fs) (sym put)
          (record {
            normals_are = normal_more l.ns (l.k + 1) n want (omega (arith, l.invariant.room)) l.invariant.there.normals_are
                (n-is ∙ sym (ap want (add-one l.k)));
          });
    }

pub returns : goal.returns
returns c =
    let a = c.args in
    let l = c.loop-k in
    let end : l.k ≡ a.count = omega arith in
    subst (λ (k : ℕ). Gathered a.normals.now a.poly a.ring.now k l.ns) end l.invariant.there
