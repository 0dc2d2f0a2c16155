-- `ring::ring` meets its contract. The loop's invariant: what is written, followed by the ring from the walker on, is the whole ring.
use mathlib.Core.Path.{◌≡◌, sym, subst}
use Prim.Native.Nat.{ℕ, ◌+◌, ◌/◌}
use lib.ListN.{set}
use native.Mathlib.Omega.{arith}
use Rattle.rings.specs.declared.ring.Walker.{Walker}
use Rattle.rings.specs.Rings.{ring_of}
use Rattle.rings.specs.Steps.Stored.{Begins}
use Rattle.rings.proofs.RingLaws.{Ringing, begun, ended, filled, here, again}
use Rattle.rings.proofs.ring.ring.Goals as goal

pub loop-count-init : goal.loop-count-init
loop-count-init c =
    let a = c.args in
    subst (λ (at : ℕ). Ringing a.corners.now a.links.now a.v (a.s / 3) a.n (ring_of a.corners.now a.links.now a.v a.s)
    a.out.now a.out.now (record { prev = a.s / 3; at = at }) 0) (sym c.first_link.ensures) (begun a.corners.now a.links.now a.v
    a.n a.s a.out.now c.requires.0 c.requires.1)

pub returns-then-p-eq65535 : goal.returns-then-p-eq65535
returns-then-p-eq65535 c =
    let a = c.args in
    let l = c.loop-count in
    ended a.corners.now a.links.now a.v (a.s / 3) a.n (ring_of a.corners.now a.links.now a.v a.s) a.out.now l.out
    l.w l.count c.requires.2 l.invariant c.if-p-eq65535.true

pub onward-w-requires : goal.onward-w-requires
onward-w-requires c =
    let a = c.args in
    let l = c.loop-count in (
      c.requires.0,
      here a.corners.now a.links.now a.v (a.s / 3) a.n (ring_of a.corners.now a.links.now a.v a.s) a.out.now
          l.out l.w l.count c.requires.2 l.invariant c.if-p-eq65535.false,
    )

pub loop-count-preserved : goal.loop-count-preserved
loop-count-preserved c =
    let a = c.args in
    let l = c.loop-count in
    subst (λ (w : Walker). Ringing a.corners.now a.links.now a.v (a.s / 3) a.n (ring_of a.corners.now a.links.now a.v a.s)
    a.out.now (set l.out l.count l.w.at) w (l.count + 1)) (sym c.onward-w.ensures) (again a.corners.now a.links.now a.v
    (a.s / 3) a.n (ring_of a.corners.now a.links.now a.v a.s) a.out.now l.out l.w l.count c.requires.2 l.invariant c.requires.0
    (omega arith) c.if-p-eq65535.false)

pub returns : goal.returns
returns c =
    let a = c.args in
    let l = c.loop-count in
    let whole = ring_of a.corners.now a.links.now a.v a.s in
    let end : l.count ≡ 63 = omega arith in
    subst (λ (n : ℕ). Begins whole l.out n) end
    (filled a.corners.now a.links.now a.v (a.s / 3) a.n whole a.out.now l.out l.w l.count c.requires.2 l.invariant (omega arith))
