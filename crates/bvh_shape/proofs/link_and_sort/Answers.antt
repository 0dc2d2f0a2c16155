-- `link_and_sort` meets its contract: where there is a tree the links and the numbers, else nothing.
use Rattle.bvh_shape.proofs.Shaping.{links_made}
use mathlib.Core.Path.{sym, ap, ◌∙◌}
use Rattle.std.specs.Prelude.{take, Ok}
use Rattle.bvh.specs.Build.{Build, kept}
use Rattle.reorder.specs.Reordering.{in_order}
use Rattle.bvh_shape.specs.Sorting.{linked_if}
use Rattle.bvh_shape.proofs.link_and_sort.Goals as goal

pub reorder_bytes-requires : goal.reorder_bytes-requires
reorder_bytes-requires c =
    let s = c.requires c.in-Ok.field-0 c.in-Ok.is in
    (s.work.few, s.long, s.for_sorted, s.places_below)

pub returns-in-Ok : goal.returns-in-Ok
returns-in-Ok c =
    let is = sym c.in-Ok.is in
    let s = c.requires c.in-Ok.field-0 c.in-Ok.is in
    let a = c.args in
    record {
      linked_are =
          links_made _ _ _ _ _ _ _ s.work s.known _ _ c.update_edge_indices.ensures
          ∙ ap (λ (x : Build). linked_if x a.p a.polygons_out.now) is;
      numbers_are =
          c.reorder_bytes.ensures
          ∙ ap (λ (x : Build). kept x (in_order (take a.p a.order.now) a.numbers.now) a.sorted.now) is;
    }
