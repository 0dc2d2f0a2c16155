-- `new_link` meets its contract: what its calls ensure, one after the other.
use mathlib.Core.Path.{ap, ◌∙◌}
use Rattle.base.proofs.ShortLaws.{same_short}
use Rattle.float32.specs.Casts.{low16bits, signed16}
use Rattle.reorder.specs.Reordering.{renumbered, new_link}
use Rattle.reorder.proofs.renumbering.new_link.Goals as goal

pub returns : goal.returns
unfolding new_link
returns c =
    let old = c.half_of.ensures ∙ ap low16bits (same_short c.args.e c.ranges.e.sfits) in
    same_short c.short_of.result c.short_of.type_inv
    ∙ c.short_of.ensures
    ∙ ap signed16 (c.renumbered.ensures ∙ ap (renumbered c.args.lookup.now) old)
