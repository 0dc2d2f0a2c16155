-- `text::put_decimal` meets its contract: the fewest digits that hold n are copied.
use mathlib.Core.Path.{◌∙◌}
use Rattle.listing.proofs.Decimals.{digits_are, few_digits}
use Rattle.listing.proofs.Putting.{put_as}
use native.Mathlib.Omega.{arith}
use Rattle.listing.proofs.text.put_decimal.Goals as goal

pub put_text-requires : goal.put_text-requires
put_text-requires c =
    omega (arith, few_digits c.decimal-k.result c.args.n c.requires.1 c.decimal-k.ensures.len)

pub returns : goal.returns
returns c =
    let fewest = c.decimal-k.ensures.len in
    let five = few_digits c.decimal-k.result c.args.n c.requires.1 fewest in
    put_as (c.decimal-k.ensures.digits ∙ digits_are c.decimal-k.result c.args.n (omega arith) fewest) (omega arith) c.put_text.ensures
