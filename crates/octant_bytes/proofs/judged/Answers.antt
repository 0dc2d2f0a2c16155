-- `judged`: the checks in their order; what is left of 2^64 − 1 is below the address where the sum passes it.
use mathlib.Core.Path.{sym, ◌∙◌}
use Rattle.octant_bytes.proofs.Judging.{few, too_many, too_short, too_high, written}
use Rattle.octant_bytes.specs.Steps.Counts.{listed}
use native.Mathlib.Omega.{arith}
use Rattle.octant_bytes.proofs.judged.Goals as goal

pub returns-then-too_many : goal.returns-then-too_many
returns-then-too_many c = too_many _ _ _ (sym c.too_many.ensures ∙ c.if-too_many.true)

pub all_of-all-requires : goal.all_of-all-requires
all_of-all-requires c = few (listed c.args.c) (sym c.too_many.ensures ∙ c.if-too_many.false)

pub returns-then-room-all : goal.returns-then-room-all
returns-then-room-all c =
    too_short _ _ _ (sym c.too_many.ensures ∙ c.if-too_many.false) (omega (arith, c.if-room-all.true, c.all_of-all.ensures.0))

pub returns-then-address-all : goal.returns-then-address-all
returns-then-address-all c =
    let all = c.all_of-all.ensures in
    too_high _ _ _ (sym c.too_many.ensures ∙ c.if-too_many.false) (omega (arith, c.if-room-all.false, all.0))
    (omega (arith, c.if-address-all.true, all.0, all.1))

pub returns : goal.returns
returns c =
    let all = c.all_of-all.ensures in
    written _ _ _ (sym c.too_many.ensures ∙ c.if-too_many.false) (omega (arith, c.if-room-all.false, all.0))
    (omega (arith, c.if-address-all.false, all.0, all.1))
