-- `root::sqrt` meets its contract: x is the number that its pattern stands for, and each branch is a case of `Cases`.
use mathlib.Core.Path.{◌≡◌, sym, ap, ◌∙◌, subst}
use Prim.Native.Nat.{ℕ, ◌<◌}
use native.Mathlib.Omega.{arith}
use lib.Dec.{T}
use lib.Ieee.{Float, binary32, fits, of_bits}
use lib.Ieee.Bits.{of_bits-to_bits, to_bits-lt}
use Rattle.float32.specs.SquareRoot.{sqrt_of}
use Rattle.float32.proofs.Patterns.{no_nan}
use Rattle.float32.proofs.root.Cases.{above_zero, root_finite, zero_root, minus_zero_root, infinity_root, no_root}
use Rattle.float32.proofs.root.sqrt.Goals as goal

pub returns-then-pattern-eq0 : goal.returns-then-pattern-eq0
returns-then-pattern-eq0 c =
    let held : T (fits binary32 c.args.x) = subst T (sym c.well_formed.0.1) tt in
    let x_is : of_bits binary32 c.bits-pattern.result ≡ c.args.x = ap (of_bits binary32) c.bits-pattern.ensures ∙ of_bits-to_bits binary32 c.args.x held in
    let itself : (n : ℕ) → c.bits-pattern.result ≡ n → of_bits binary32 n ≡ sqrt_of binary32 (of_bits binary32 n) → c.args.x ≡ sqrt_of binary32 c.args.x = λ n e h. subst (λ (x : Float). x ≡ sqrt_of binary32 x) (ap (of_bits binary32) (sym e) ∙ x_is) h in
    itself 0 c.if-pattern-eq0.true zero_root

pub float_from_bits-result : goal.float_from_bits-result
float_from_bits-result c =
    let b = c.bits-pattern.result in
    let small = subst (λ (n : ℕ). n < 0x7f80_0000) (sym c.root_bits.ensures) (root_finite b _ _ c.parts-scaled.ensures) in
    no_nan c.root_bits.result (omega (arith, small))

pub returns-then-pattern-lt2139095040 : goal.returns-then-pattern-lt2139095040
returns-then-pattern-lt2139095040 c =
    let held : T (fits binary32 c.args.x) = subst T (sym c.well_formed.0.1) tt in
    let x_is : of_bits binary32 c.bits-pattern.result ≡ c.args.x = ap (of_bits binary32) c.bits-pattern.ensures ∙ of_bits-to_bits binary32 c.args.x held in
    ap (of_bits binary32) c.root_bits.ensures
    ∙ above_zero c.bits-pattern.result _ _ (omega (arith, c.if-pattern-eq0.false)) c.if-pattern-lt2139095040.true c.parts-scaled.ensures
    ∙ ap (sqrt_of binary32) x_is

pub returns-then-pattern-eq2139095040 : goal.returns-then-pattern-eq2139095040
returns-then-pattern-eq2139095040 c =
    let held : T (fits binary32 c.args.x) = subst T (sym c.well_formed.0.1) tt in
    let x_is : of_bits binary32 c.bits-pattern.result ≡ c.args.x = ap (of_bits binary32) c.bits-pattern.ensures ∙ of_bits-to_bits binary32 c.args.x held in
    let itself : (n : ℕ) → c.bits-pattern.result ≡ n → of_bits binary32 n ≡ sqrt_of binary32 (of_bits binary32 n) → c.args.x ≡ sqrt_of binary32 c.args.x = λ n e h. subst (λ (x : Float). x ≡ sqrt_of binary32 x) (ap (of_bits binary32) (sym e) ∙ x_is) h in
    itself 0x7f80_0000 c.if-pattern-eq2139095040.true infinity_root

pub returns-then-pattern : goal.returns-then-pattern
returns-then-pattern c =
    let held : T (fits binary32 c.args.x) = subst T (sym c.well_formed.0.1) tt in
    let x_is : of_bits binary32 c.bits-pattern.result ≡ c.args.x = ap (of_bits binary32) c.bits-pattern.ensures ∙ of_bits-to_bits binary32 c.args.x held in
    let itself : (n : ℕ) → c.bits-pattern.result ≡ n → of_bits binary32 n ≡ sqrt_of binary32 (of_bits binary32 n) → c.args.x ≡ sqrt_of binary32 c.args.x = λ n e h. subst (λ (x : Float). x ≡ sqrt_of binary32 x) (ap (of_bits binary32) (sym e) ∙ x_is) h in
    itself 0x8000_0000 c.if-pattern.true minus_zero_root

pub returns : goal.returns
returns c =
    let held : T (fits binary32 c.args.x) = subst T (sym c.well_formed.0.1) tt in
    let x_is : of_bits binary32 c.bits-pattern.result ≡ c.args.x = ap (of_bits binary32) c.bits-pattern.ensures ∙ of_bits-to_bits binary32 c.args.x held in
    let pattern_lt : c.bits-pattern.result < 0x1_0000_0000 = subst (λ (b : ℕ). b < 0x1_0000_0000) (sym c.bits-pattern.ensures) (to_bits-lt binary32 c.args.x held) in
    no_root c.bits-pattern.result pattern_lt c.if-pattern-lt2139095040.false c.if-pattern-eq2139095040.false c.if-pattern.false ∙ ap (sqrt_of binary32) x_is
