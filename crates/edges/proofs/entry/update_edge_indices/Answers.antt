-- `update_edge_indices`: the checks in their order, and then the links.
use mathlib.Core.Path.{sym, ◌∙◌}
use Rattle.edges.proofs.entry.Answering.{room, too_many, too_small, unknown, served}
use Rattle.edges.proofs.entry.update_edge_indices.Goals as goal

pub returns-then-n-gt32767 : goal.returns-then-n-gt32767
returns-then-n-gt32767 c = too_many _ _ _ c.if-n-gt32767.true

pub returns-then-too_short : goal.returns-then-too_short
returns-then-too_short c = too_small _ _ _ c.if-n-gt32767.false (sym c.too_short.ensures ∙ c.if-too_short.true)

pub kinds_known-requires : goal.kinds_known-requires
kinds_known-requires c = (room _ _ (sym c.too_short.ensures ∙ c.if-too_short.false)).0

pub returns-then-not-kinds_known : goal.returns-then-not-kinds_known
returns-then-not-kinds_known c =
    let short = sym c.too_short.ensures ∙ c.if-too_short.false in
    unknown _ _ _ c.if-n-gt32767.false short (sym c.kinds_known.ensures ∙ c.if-not-kinds_known.true)

pub link_polygons-requires : goal.link_polygons-requires
link_polygons-requires c =
    let short = sym c.too_short.ensures ∙ c.if-too_short.false in
    let w = room _ _ short in
    record {
      few = c.if-n-gt32767.false;
      records = w.0;
      for_corners = w.1;
      for_keys = w.2;
      for_sides = w.3;
      for_spare = w.4;
      for_links = w.5;
    }

pub returns : goal.returns
returns c =
    let short = sym c.too_short.ensures ∙ c.if-too_short.false in
    let known = sym c.kinds_known.ensures ∙ c.if-not-kinds_known.false in
    served _ _ _ _ c.if-n-gt32767.false short known c.link_polygons.ensures
