-- `casts::truncated` meets its contract: x's word tells its sign and its whole part, which is at most 32767 (`WholePart`).
use mathlib.Core.Path.{sym, ap, ◌∙◌, subst}
use Prim.Native.Nat.{ℕ, ◌<◌}
use native.Mathlib.Omega.{arith}
use lib.Dec.{T}
use lib.IntN.{ℤ, pos, neg_ℤ}
use lib.Ieee.{binary32, fits}
use mir.Syntax.{w16}
use mir.Val.{SFits}
use mir.Facts.{to_z-of_z, to_z_pos}
use Rattle.float32.proofs.Wrap.{minus_is, minus_fits}
use Rattle.float32.proofs.WholePart.{truncated_below, truncated_above}
use Rattle.float32.proofs.casts.truncated.Goals as goal

pub overflow_sub-result : goal.overflow_sub-result
overflow_sub-result c =
    let size-lt : c.min-size.result < 32768 = omega (arith, c.min-size.ensures) in
    let n = c.min-size.result in
    subst (λ (z : ℤ). SFits w16 z) (sym (minus_is w16 n size-lt)) (minus_fits w16 n (omega (arith, size-lt)))

pub returns-then-word-lt2147483648 : goal.returns-then-word-lt2147483648
returns-then-word-lt2147483648 c =
    let held : T (fits binary32 c.args.x) = subst T (sym c.well_formed.0.1) tt in
    let size-lt : c.min-size.result < 32768 = omega (arith, c.min-size.ensures) in
    let word = c.number_word-word in
    let size = c.cut_size in
    to_z_pos w16 size-lt
    ∙ ap pos c.min-size.ensures
    ∙ truncated_above c.args.x held word.result size.result word.ensures size.ensures c.if-word-lt2147483648.true

pub returns-else-word-lt2147483648 : goal.returns-else-word-lt2147483648
returns-else-word-lt2147483648 c =
    let held : T (fits binary32 c.args.x) = subst T (sym c.well_formed.0.1) tt in
    let size-lt : c.min-size.result < 32768 = omega (arith, c.min-size.ensures) in
    let word = c.number_word-word in
    let size = c.cut_size in
    to_z-of_z (overflow_sub-result c)
    ∙ minus_is w16 c.min-size.result size-lt
    ∙ ap (λ (n : ℕ). neg_ℤ (pos n)) c.min-size.ensures
    ∙ truncated_below c.args.x held word.result size.result word.ensures size.ensures c.if-word-lt2147483648.false
