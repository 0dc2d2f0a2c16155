-- `furthest` reads rows that are there; what it answers is free.
use Prim.Native.Nat.{◌<◌}
use Rattle.base.proofs.EveryLaws.{every_at}
use native.Mathlib.Omega.{arith}
use Rattle.maxima.proofs.kept.furthest.Goals as goal

pub nearest-near-requires : goal.nearest-near-requires
nearest-near-requires c =
    (c.requires.0, every_at (λ p. p < c.args.n) c.args.kept.now c.loop-k.k c.requires.1 (omega arith))
