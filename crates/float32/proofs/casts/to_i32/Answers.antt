-- `casts::to_i32` meets its contract: x's word tells its sign and its whole part (`WholePart`), and -2 ^ 31 is no i32's negation.
use borrow.Author.Rules.{rules}
use mathlib.Core.Path.{◌≡◌, sym, ap, ◌∙◌, subst}
use Prim.Native.Nat.{ℕ, ◌%◌, ◌≤◌}
use native.Mathlib.Omega.{arith}
use lib.Dec.{T}
use lib.IntN.{ℤ, pos, neg_ℤ, ◌-ℤ◌}
use lib.Ieee.{binary32, fits}
use mir.Syntax.{w32, w64}
use mir.Val.{SFits, to_z, of_z}
use mir.Facts.{to_z-of_z, to_z_pos}
use Rattle.float32.proofs.CutSize.{cut_le}
use Rattle.float32.proofs.Wrap.{minus_is, minus_fits}
use Rattle.float32.proofs.WholePart.{cast_below, cast_above}
use Rattle.float32.proofs.casts.to_i32.Goals as goal

pub overflow_cast-result : goal.overflow_cast-result
overflow_cast-result c = search rules

pub overflow_sub-result : goal.overflow_sub-result
overflow_sub-result c =
    let size-le : c.cut_size-size.result ≤ 0x8000_0000 = subst (λ (n : ℕ). n ≤ 0x8000_0000) (sym c.cut_size-size.ensures) (cut_le (c.number_word-word.result % 0x8000_0000)) in
    let minus : pos 0 -ℤ to_z w64 c.cut_size-size.result ≡ neg_ℤ (pos c.cut_size-size.result) = minus_is w64 c.cut_size-size.result (omega (arith, size-le)) in
    subst (λ (z : ℤ). SFits w64 z) (sym minus) (minus_fits w64 c.cut_size-size.result (omega (arith, size-le)))

pub overflow_cast-result-else-word-lt2147483648-2 : goal.overflow_cast-result-else-word-lt2147483648-2
overflow_cast-result-else-word-lt2147483648-2 c =
    let size-le : c.cut_size-size.result ≤ 0x8000_0000 = subst (λ (n : ℕ). n ≤ 0x8000_0000) (sym c.cut_size-size.ensures) (cut_le (c.number_word-word.result % 0x8000_0000)) in
    let minus : pos 0 -ℤ to_z w64 c.cut_size-size.result ≡ neg_ℤ (pos c.cut_size-size.result) = minus_is w64 c.cut_size-size.result (omega (arith, size-le)) in
    let read : to_z w64 (of_z w64 (pos 0 -ℤ to_z w64 c.cut_size-size.result)) ≡ neg_ℤ (pos c.cut_size-size.result) = to_z-of_z (overflow_sub-result c) ∙ minus in
    subst (λ (z : ℤ). SFits w32 z) (sym read) (minus_fits w32 c.cut_size-size.result size-le)

pub returns-then-word-lt2147483648 : goal.returns-then-word-lt2147483648
returns-then-word-lt2147483648 c =
    let held : T (fits binary32 c.args.x) = subst T (sym c.well_formed.0.1) tt in
    let word = c.number_word-word in
    let size = c.cut_size-size in
    to_z_pos w32 (overflow_cast-result c).sfits
    ∙ ap pos c.min.ensures
    ∙ cast_above c.args.x held word.result size.result word.ensures size.ensures c.if-word-lt2147483648.true

pub returns-else-word-lt2147483648 : goal.returns-else-word-lt2147483648
returns-else-word-lt2147483648 c =
    let held : T (fits binary32 c.args.x) = subst T (sym c.well_formed.0.1) tt in
    let size-le : c.cut_size-size.result ≤ 0x8000_0000 = subst (λ (n : ℕ). n ≤ 0x8000_0000) (sym c.cut_size-size.ensures) (cut_le (c.number_word-word.result % 0x8000_0000)) in
    let minus : pos 0 -ℤ to_z w64 c.cut_size-size.result ≡ neg_ℤ (pos c.cut_size-size.result) = minus_is w64 c.cut_size-size.result (omega (arith, size-le)) in
    let read : to_z w64 (of_z w64 (pos 0 -ℤ to_z w64 c.cut_size-size.result)) ≡ neg_ℤ (pos c.cut_size-size.result) = to_z-of_z (overflow_sub-result c) ∙ minus in
    let word = c.number_word-word in
    let size = c.cut_size-size in
    ap (λ (z : ℤ). to_z w32 (of_z w32 z)) read
    ∙ to_z-of_z (minus_fits w32 c.cut_size-size.result size-le)
    ∙ cast_below c.args.x held word.result size.result word.ensures size.ensures c.if-word-lt2147483648.false
