-- The two ends of `grow_tree`: the empty leaf, and the laid rows with their sizes put in.
use Prim.Native.Nat.{ℕ, ◌*◌, ◌≤◌, ◌<◌}
use native.Mathlib.Omega.{arith}
use mathlib.Core.List.{List, []}
use mathlib.Core.Path.{◌≡◌, refl, sym, ap, ◌∙◌}
use lib.ListN.{length, take, length-take}
use Rattle.rows.specs.Rows.{Row, rows}
use Rattle.rows.specs.Tree.{Node, leaf, size}
use Rattle.growth.specs.Grow.{Builder, grow}
use Rattle.growth.specs.Steps.Laid.{Laid, Grown}
use Rattle.rows.specs.Steps.Sizes.{bare_rows, sized}
use Rattle.rows.specs.Steps.Table.{table_of, rows_in, with_row}
use Rattle.growth.proofs.Lawful.{Lawful}
use Rattle.rows.proofs.TableLaws.{length_table, rows_held}
use Rattle.growth.proofs.GrowLaws.{grow_leaf, grow_full}
use Rattle.rows.proofs.TreeLaws.{length_rows}
use Rattle.growth.proofs.grow.Written.{one_more}
use Rattle.rows.proofs.sizes.Sizing.{length_sized, sized_tree}

pub empty : (b : Builder) (th : ℕ) (ps table table' : List ℕ) → length ps ≡ 0 → 8 ≤ length table
    → table' ≡ with_row 0 (record { box = b.box ps; head = 0; count = length ps }) table
    → Grown b th ps ps table' 1
empty b th ps table table' z room put =
    let row : Row = record { box = b.box ps; head = 0; count = length ps } in
    let e : grow b th ps ≡ leaf (b.box ps) ps = grow_leaf b th ps (omega arith) in
    record {
      order_is = rw e;
      rows_are = rw (e, put) (one_more 0 row table [] room refl);
      size_is = rw e;
      most = omega arith;
    }

pub finished : (b : Builder) (law : Lawful b) (th : ℕ) (ps places table table' : List ℕ) (r : ℕ) → 0 < th → 0 < length ps
    → Laid b th ps places table r → 8 * r ≤ length table → take (8 * r) table' ≡ table_of (sized (rows_in r table))
    → Grown b th ps places table' r
finished b law th ps places table table' r pos some w room filled =
    let t : Node = grow b th ps in
    let bare : sized (bare_rows 0 t) ≡ rows 0 t = sized_tree t (grow_full b law th pos ps some) in
    let many : length (bare_rows 0 t) ≡ size t = sym (length_sized (bare_rows 0 t)) ∙ ap length bare ∙ length_rows 0 t in
    let size_is : r ≡ size t =
    omega (arith, ap length w.rows_are, length-take (8 * r) table, length_table (bare_rows 0 t)) in
    record {
      order_is = w.order_is;
      rows_are =
          filled
          ∙ ap (λ (rs : List Row). table_of (sized rs)) (rows_held (bare_rows 0 t) r table (many ∙ sym size_is) w.rows_are)
          ∙ ap table_of bare;
      size_is = size_is;
      most = omega (arith, w.most);
    }
