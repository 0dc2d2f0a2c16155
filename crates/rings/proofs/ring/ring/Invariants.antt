-- `ring::ring` meets its contract. The loop's invariant: what is written, followed by the ring from the walker on, is the whole ring.
use Prim.Native.Nat.{◌/◌}
use Rattle.rings.specs.Rings.{ring_of}
use Rattle.rings.proofs.RingLaws.{Ringing}
use Rattle.rings.proofs.ring.ring.Given as goal

abbrev pub invariant-loop-count : goal.invariant-loop-count
invariant-loop-count l = Ringing l.corners l.links l.v (l.s / 3) l.n (ring_of l.corners l.links l.v l.s) l.initial.out l.out l.w l.count
