-- `root::guess` meets its contract: the bounds of `Cubic`.
use Prim.Native.Nat.{ℕ, ◌-◌, ◌≤◌}
use native.Mathlib.Nat.{le_trans, lt_of_le_of_lt}
use native.Mathlib.Omega.{arith}
use lib.Dec.{lit<, lit≤}
use Rattle.float32.proofs.root.Cubic.{bend_product, slope_le, slope_product, taken, product_le, guess_within}
use Rattle.float32.proofs.root.guess.Goals as goal

pub overflow_mul-slope : goal.overflow_mul-slope
overflow_mul-slope c =
    let y : ℕ = 0x100_0000 - c.args.significand in
    let y-le : y ≤ 0x80_0000 = omega (arith, c.requires.0) in
    record { fits = lt_of_le_of_lt (bend_product y y-le) (lit< tt) }

pub overflow_add-slope : goal.overflow_add-slope
overflow_add-slope c =
    let y : ℕ = 0x100_0000 - c.args.significand in
    let y-le : y ≤ 0x80_0000 = omega (arith, c.requires.0) in
    record { fits = lt_of_le_of_lt (slope_le y y-le) (lit< tt) }

pub overflow_mul-root : goal.overflow_mul-root
overflow_mul-root c =
    let y : ℕ = 0x100_0000 - c.args.significand in
    let y-le : y ≤ 0x80_0000 = omega (arith, c.requires.0) in
    record { fits = lt_of_le_of_lt (slope_product y y-le) (lit< tt) }

pub overflow_sub-root : goal.overflow_sub-root
overflow_sub-root c =
    let y : ℕ = 0x100_0000 - c.args.significand in
    let y-le : y ≤ 0x80_0000 = omega (arith, c.requires.0) in
    le_trans (taken y y-le) (lit≤ tt)

pub overflow_mul-result : goal.overflow_mul-result
overflow_mul-result c =
    let y : ℕ = 0x100_0000 - c.args.significand in
    let y-le : y ≤ 0x80_0000 = omega (arith, c.requires.0) in
    let f = c.factor in
    record { fits = lt_of_le_of_lt (product_le y y-le f.result f.ensures.0 f.ensures.1) (lit< tt) }

pub returns : goal.returns
returns c =
    let y : ℕ = 0x100_0000 - c.args.significand in
    let y-le : y ≤ 0x80_0000 = omega (arith, c.requires.0) in
    let f = c.factor in
    guess_within y y-le f.result f.ensures.0 f.ensures.1
