-- `place_by`: where no mark stands, the material is not in the list.
use mathlib.Core.Path.{sym, ap, ◌∙◌}
use Prim.Native.Nat.{ℕ, ◌+◌}
use lib.ListN.{get_or}
use Rattle.materials.proofs.listing.Entering.{unmarked}
use Rattle.materials.proofs.listing.Seeking.{placed}
use Rattle.materials.proofs.listing.place_by.Goals as goal

pub returns-then-table-bucket-eq0 : goal.returns-then-table-bucket-eq0
returns-then-table-bucket-eq0 c =
    let a = c.args in
    let z = ap (λ (n : ℕ). get_or a.table.now (256 + n) 0) (sym c.bucket.ensures.0) ∙ c.if-table-bucket-eq0.true in
    sym (unmarked _ _ _ c.requires.1 z)

pub returns : goal.returns
returns c = rw c.place_in.ensures (placed c.args.list.now c.args.x)
