-- `count_materials`: a table of zeros has no place yet.
use native.Mathlib.Omega.{arith}
use Prim.Native.Nat.{ℕ}
use lib.ListN.{length-replicate, get_or-replicate}
use Rattle.materials.proofs.listing.count_materials.Goals as goal

pub count_all-requires : goal.count_all-requires
count_all-requires c =
    let q = c.requires in (
      record { numbered = q.0; few = q.1; given = q.2; for_list = length-replicate {A = ℕ} 256 0 },
      record { whole = length-replicate {A = ℕ} 1280 0; empty = λ b h. get_or-replicate {A = ℕ} 1280 b 0 0 (omega (arith, h)) },
    )
