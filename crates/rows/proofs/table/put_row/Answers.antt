-- `rows::put_row` meets its contract: the box, and the two words behind it, are one run of stores.
use Prim.Native.Nat.{suc, ◌+◌, ◌*◌}
use mathlib.Core.List.{[], ◌∷◌}
use mathlib.Core.Path.{◌≡◌, refl}
use lib.ListN.{length-set}
use Rattle.base.proofs.StoreLaws.{store_next}
use Rattle.entries.specs.Boxes.{box_words}
use native.Mathlib.Omega.{arith}
use Rattle.rows.proofs.table.put_row.Goals as goal

pub bounds-rows-at-2 : goal.bounds-rows-at-2
bounds-rows-at-2 c = simp length-set (omega arith)

pub returns : goal.returns
returns c =
    let a = c.args in
    let last : 8 * a.i + 7 ≡ suc (8 * a.i + 6) = omega arith in
    store_next a.rows.now (box_words a.around) (a.head ∷ a.items ∷ []) (8 * a.i) 6 refl c.put_box.ensures (rw last)
