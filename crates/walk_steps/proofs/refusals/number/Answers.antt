-- `refusals::number` meets its contract: the two ways through it are the two signs.
use mathlib.Core.Path.{sym, subst, ap, ◌∙◌}
use Prim.Native.Nat.{◌<◌}
use lib.IntN.{ℤ, pos, nat_abs}
use lib.Signed.{lt_z, non_neg}
use lib.Dec.{T, lit<}
use mir.Syntax.{w64}
use mir.Val.{Fits}
use mir.Facts.{to_z-of_z}
use Rattle.walk_steps.proofs.Shorts.{cast_whole, whole_below, whole_is}
use Rattle.walk_steps.proofs.refusals.number.Goals as goal

pub overflow_cast-result : goal.overflow_cast-result
overflow_cast-result c =
    let e = to_z-of_z c.ranges.v in
    let not_below = sym (ap (λ (z : ℤ). lt_z z (pos 0)) e) ∙ c.if-v-lt0.false in
    subst (λ (z : ℤ). T (non_neg z) × Fits w64 (nat_abs z)) (sym e) (cast_whole c.args.v c.ranges.v not_below)

pub returns-then-v-lt0 : goal.returns-then-v-lt0
returns-then-v-lt0 c =
    let e = to_z-of_z c.ranges.v in
    (sym (whole_below c.args.v (sym (ap (λ (z : ℤ). lt_z z (pos 0)) e) ∙ c.if-v-lt0.true)), lit< tt)

pub returns-else-v-lt0 : goal.returns-else-v-lt0
returns-else-v-lt0 c =
    let e = to_z-of_z c.ranges.v in
    let w = whole_is c.args.v c.ranges.v (sym (ap (λ (z : ℤ). lt_z z (pos 0)) e) ∙ c.if-v-lt0.false) in
    (ap nat_abs e ∙ w.0, subst (λ (z : ℤ). nat_abs z < 32768) (sym e) w.1)
