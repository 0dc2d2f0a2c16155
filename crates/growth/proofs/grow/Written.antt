-- Rows in the table: the first m rows, and one row more.
use Prim.Native.Nat.{ℕ, suc, ◌+◌, ◌*◌, ◌≤◌}
use native.Mathlib.Omega.{arith}
use mathlib.Core.List.{List, [], ◌∷◌, ◌++◌}
use mathlib.Core.Path.{◌≡◌, sym, ap, ◌∙◌}
use lib.ListN.{length, take, drop, length-append}
use lib.Seq.{sets-eq, length-take-le, take_at}
use Rattle.rows.specs.Rows.{Row}
use Rattle.rows.specs.Steps.Table.{row_words, table_of, with_row}
use Rattle.rows.proofs.TableLaws.{table_append}

pub one_more : (m : ℕ) (row : Row) (table : List ℕ) (laid : List Row) → 8 * m + 8 ≤ length table → take (8 * m) table ≡ table_of laid
    → take (8 * suc m) (with_row m row table) ≡ table_of (laid ++ (row ∷ []))
one_more m row table laid room held =
    let at : ℕ = 8 * m in
    let eight : List ℕ = row_words row in
    let long : length (take at table ++ eight) ≡ 8 * suc m = length-append (take at table) eight ∙ omega (arith, length-take-le at table (omega arith)) in
    ap (take (8 * suc m)) (sets-eq eight table at room)
    ∙ take_at (take at table ++ eight) (drop (at + 8) table) (8 * suc m) long
    ∙ ap (λ (l : List ℕ). l ++ eight) held
    ∙ sym (table_append laid (row ∷ []))
