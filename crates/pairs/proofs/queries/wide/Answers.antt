-- `queries::wide` meets its contract: an arm for each number, and one for all from 5 on.
use Rattle.std.proofs.Common.{◌≡◌, ℕ, ◌<◌, sym, ap, ◌∙◌, ap₂, arith, ne_eqb}
use lib.Ieee.{Float, binary32, of_bits, neg}
use Rattle.math.specs.Vec3s.{◌⊗◌}
use Rattle.pairs.specs.Drawing.{cube_of, wide_of}
use Rattle.pairs.proofs.queries.wide.Goals as goal

at_key : (n k : ℕ) (grain : Float) → k ≡ n → wide_of n grain ≡ wide_of k grain
at_key n k grain e = sym (ap (λ (j : ℕ). wide_of j grain) e)

beyond : (k : ℕ) (grain : Float) → 4 < k → cube_of (of_bits binary32 0x47c3_5000 ⊗ grain) (of_bits binary32 0x4843_5000 ⊗ grain) ≡ wide_of k grain
unfolding wide_of
beyond k grain h =
    rw (
      ne_eqb k 0 (λ e. omega arith),
      ne_eqb k 1 (λ e. omega arith),
      ne_eqb k 2 (λ e. omega arith),
      ne_eqb k 3 (λ e. omega arith),
      ne_eqb k 4 (λ e. omega arith),
    )

pub returns-in-0 : goal.returns-in-0
unfolding wide_of
returns-in-0 c =
    let k = c.args.k in
    c.cube.ensures ∙ ap₂ cube_of c.value-least.ensures c.value-infinity.ensures ∙ at_key 0 k _ (omega arith)

pub returns-in-1 : goal.returns-in-1
unfolding wide_of
returns-in-1 c =
    let k = c.args.k in
    c.cube-in-1.ensures ∙ ap₂ cube_of c.value-infinity.ensures c.value-least.ensures ∙ at_key 1 k _ (omega arith)

pub returns-in-2 : goal.returns-in-2
unfolding wide_of of_bits neg
returns-in-2 c =
    let k = c.args.k in
    c.cube-in-2.ensures ∙ ap (λ (f : Float). cube_of f (of_bits binary32 0)) c.value-least.ensures ∙ at_key 2 k _ (omega arith)

pub returns-in-3 : goal.returns-in-3
unfolding wide_of
returns-in-3 c =
    let k = c.args.k in
    c.cube-in-3.ensures ∙ ap (λ (f : Float). cube_of f f) c.value-nan.ensures ∙ at_key 3 k _ (omega arith)

pub returns-in-4 : goal.returns-in-4
unfolding wide_of of_bits neg
returns-in-4 c = c.cube-in-4.ensures ∙ at_key 4 c.args.k _ (omega arith)

pub returns-in_default : goal.returns-in_default
unfolding of_bits neg
returns-in_default c = c.cube-in_default.ensures ∙ beyond c.args.k _ (omega arith)
