-- `normals::put_normals` meets its contract. The loop's invariant: the normals before p are there.
use mathlib.Core.Path.{◌≡◌, refl, sym, ap, subst, ◌∙◌}
use Prim.Native.Nat.{ℕ, ◌+◌, ◌<◌}
use mathlib.Core.List.{List}
use lib.ListN.{length}
use lib.Ieee.{Float}
use native.Mathlib.Omega.{arith}
use Rattle.rings.specs.Normals.{polygon_normal}
use Rattle.rings.specs.Steps.Stored.{Normals}
use Rattle.rings.proofs.NormalLaws.{length_normal, normal_more}
use Rattle.rings.proofs.normals.put_normals.Goals as goal

pub loop-p-init : goal.loop-p-init
loop-p-init c = record { same_length = refl; there = record { normals = λ k h. absurd (omega arith) } }

pub put_normal-requires : goal.put_normal-requires
put_normal-requires c = omega (arith, c.requires.2, c.loop-p.invariant.same_length)

pub loop-p-preserved : goal.loop-p-preserved
loop-p-preserved c =
    let a = c.args in
    let l = c.loop-p in
    let put = c.put_normal.ensures in
    let n = c.polygon_normal.result in
    let more : l.p < a.n = omega arith in
    record {
      same_length = ap length put ∙ length_normal l.ns l.p n ∙ l.invariant.same_length;
      there =
          subst (λ (fs : List Float). Normals a.corners.now a.vertices.now a.v fs (l.p + 1)) (sym put)
          (record {
            normals = normal_more l.ns l.p n (polygon_normal a.corners.now a.vertices.now a.v)
                (omega (arith, c.requires.2, l.invariant.same_length)) l.invariant.there.normals c.polygon_normal.ensures;
          });
    }

pub returns : goal.returns
returns c =
    let a = c.args in
    let l = c.loop-p in
    let end : l.p ≡ a.n = omega arith in
    subst (λ (k : ℕ). Normals a.corners.now a.vertices.now a.v l.ns k) end l.invariant.there
