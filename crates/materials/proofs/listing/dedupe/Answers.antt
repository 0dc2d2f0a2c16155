-- `dedupe`: a table of zeros has no place yet.
use native.Mathlib.Omega.{arith}
use Prim.Native.Nat.{ℕ}
use lib.ListN.{length-replicate, get_or-replicate}
use Rattle.materials.proofs.listing.dedupe.Goals as goal

pub index_all-requires : goal.index_all-requires
index_all-requires c =
    (c.requires, record { whole = length-replicate {A = ℕ} 1280 0; empty = λ b h. get_or-replicate {A = ℕ} 1280 b 0 0 (omega (arith, h)) })
