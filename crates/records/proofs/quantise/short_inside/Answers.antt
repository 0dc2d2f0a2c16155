-- `quantise::short_inside` meets its contract: the whole part of the size of x is cast, and x's sign given back (`Cutting`).
use native.Mathlib.Omega.{arith}
use mathlib.Core.Path.{◌≡◌, refl, sym, ap, ◌∙◌, subst}
use mathlib.Core.Bool.{Bool, false, cond}
use Prim.Native.Nat.{◌<◌}
use lib.IntN.{ℤ, pos, neg_ℤ, ◌-ℤ◌}
use lib.Ieee.{binary32, of_bits, lt, to_signed}
use lib.Ieee.Exact.{HasValue}
use mir.Syntax.{w16}
use mir.Val.{SFits, to_z, of_z}
use mir.Facts.{to_z-of_z, to_z_pos}
use Rattle.float32.proofs.CastLaws.{short_of_is_cast_i32_lem}
use Rattle.float32.proofs.Wrap.{minus_is, minus_fits}
use Rattle.records.specs.Steps.Cut.{Whole}
use Rattle.records.proofs.Cutting.{Parts, parts, cast_fits, cast_value}
use Rattle.records.proofs.quantise.short_inside.Goals as goal

pub float_to_int-n : goal.float_to_int-n
float_to_int-n c =
    let cut_of : Parts c.args.x (lt c.args.x (of_bits binary32 0)) = parts c.args.x (lt c.args.x (of_bits binary32 0)) c.requires refl in
    let value_of : HasValue c.whole-n.result false cut_of.part 1 = c.whole-n.ensures cut_of.part (subst (Whole cut_of.part) (sym c.size.ensures) cut_of.whole_part) in
    let small : cut_of.part < 32768 = cut_of.whole_part.small in
    cast_fits c.whole-n.result cut_of.part value_of small

pub overflow_sub-result : goal.overflow_sub-result
overflow_sub-result c =
    let cut_of : Parts c.args.x (lt c.args.x (of_bits binary32 0)) = parts c.args.x (lt c.args.x (of_bits binary32 0)) c.requires refl in
    let value_of : HasValue c.whole-n.result false cut_of.part 1 = c.whole-n.ensures cut_of.part (subst (Whole cut_of.part) (sym c.size.ensures) cut_of.whole_part) in
    let small : cut_of.part < 32768 = cut_of.whole_part.small in
    let read : to_z w16 (of_z w16 (to_signed 15 c.whole-n.result)) ≡ pos cut_of.part = ap (λ (z : ℤ). to_z w16 (of_z w16 z)) (cast_value c.whole-n.result cut_of.part value_of small) ∙ to_z-of_z {w = w16} (record { sfits = small }) in
    let minus : pos 0 -ℤ to_z w16 (of_z w16 (to_signed 15 c.whole-n.result)) ≡ neg_ℤ (pos cut_of.part) = ap (λ (z : ℤ). pos 0 -ℤ z) (read ∙ sym (to_z_pos w16 small)) ∙ minus_is w16 cut_of.part small in
    subst (λ (z : ℤ). SFits w16 z) (sym minus) (minus_fits w16 cut_of.part (omega (arith, small)))

pub returns-then-x : goal.returns-then-x
returns-then-x c =
    let cut_of : Parts c.args.x (lt c.args.x (of_bits binary32 0)) = parts c.args.x (lt c.args.x (of_bits binary32 0)) c.requires refl in
    let value_of : HasValue c.whole-n.result false cut_of.part 1 = c.whole-n.ensures cut_of.part (subst (Whole cut_of.part) (sym c.size.ensures) cut_of.whole_part) in
    let small : cut_of.part < 32768 = cut_of.whole_part.small in
    let read : to_z w16 (of_z w16 (to_signed 15 c.whole-n.result)) ≡ pos cut_of.part = ap (λ (z : ℤ). to_z w16 (of_z w16 z)) (cast_value c.whole-n.result cut_of.part value_of small) ∙ to_z-of_z {w = w16} (record { sfits = small }) in
    let minus : pos 0 -ℤ to_z w16 (of_z w16 (to_signed 15 c.whole-n.result)) ≡ neg_ℤ (pos cut_of.part) = ap (λ (z : ℤ). pos 0 -ℤ z) (read ∙ sym (to_z_pos w16 small)) ∙ minus_is w16 cut_of.part small in
    let n = cut_of.part in
    to_z-of_z (overflow_sub-result c) ∙ minus
    ∙ sym (short_of_is_cast_i32_lem c.args.x c.requires.0 c.requires.1 ∙ cut_of.cast ∙ ap (λ (b : Bool). cond b (neg_ℤ (pos n)) (pos n)) c.if-x.true)

pub returns-else-x : goal.returns-else-x
returns-else-x c =
    let cut_of : Parts c.args.x (lt c.args.x (of_bits binary32 0)) = parts c.args.x (lt c.args.x (of_bits binary32 0)) c.requires refl in
    let value_of : HasValue c.whole-n.result false cut_of.part 1 = c.whole-n.ensures cut_of.part (subst (Whole cut_of.part) (sym c.size.ensures) cut_of.whole_part) in
    let small : cut_of.part < 32768 = cut_of.whole_part.small in
    let read : to_z w16 (of_z w16 (to_signed 15 c.whole-n.result)) ≡ pos cut_of.part = ap (λ (z : ℤ). to_z w16 (of_z w16 z)) (cast_value c.whole-n.result cut_of.part value_of small) ∙ to_z-of_z {w = w16} (record { sfits = small }) in
    let n = cut_of.part in
    read
    ∙ sym (short_of_is_cast_i32_lem c.args.x c.requires.0 c.requires.1 ∙ cut_of.cast ∙ ap (λ (b : Bool). cond b (neg_ℤ (pos n)) (pos n)) c.if-x.false)
