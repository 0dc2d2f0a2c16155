-- `link_sides`: the links among the grouped sides are the links among the sides.
use Prim.Native.Nat.{◌<◌}
use mathlib.Core.Path.{◌∙◌}
use lib.ListN.{length}
use Rattle.edges.proofs.links.Whole.{every_grouped, sides_grouped, linked_grouped}
use Rattle.edges.proofs.links.link_sides.Goals as goal

pub link_runs-requires : goal.link_runs-requires
link_runs-requires c =
    let p = c.requires in
    let g = c.group in (
      sides_grouped _ _ _ g.ensures (g.auto.spare ∙ p.3) p.0,
      g.ensures.rising,
      every_grouped _ _ _ g.ensures
          (λ s. s < length c.args.links.now) p.2,
    )

pub returns : goal.returns
returns c =
    linked_grouped _ _ _ c.group.ensures _ _ c.link_runs.ensures
