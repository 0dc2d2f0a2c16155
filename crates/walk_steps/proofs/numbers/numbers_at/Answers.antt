-- `numbers::numbers_at` meets its contract: the halves of the word are the bits of the numbers.
use mathlib.Core.Path.{ap, ◌∙◌}
use Rattle.base.proofs.ShortLaws.{same_short}
use Rattle.float32.specs.Casts.{signed16}
use Rattle.records.specs.Shorts.{short_at}
use Rattle.walk_steps.proofs.numbers.numbers_at.Goals as goal

pub returns : goal.returns
unfolding short_at
returns c =
    let word = c.two_and_two-word.ensures in
    let first = c.short in
    let second = c.short-2 in (
      same_short first.result first.type_inv ∙ first.ensures ∙ ap signed16 word.0,
      same_short second.result second.type_inv ∙ second.ensures ∙ ap signed16 word.1,
    )
