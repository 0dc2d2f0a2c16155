-- What `parts` makes of a pattern scales its number: a normal pattern by its exponent's field, a subnormal one by the places that its leading zeros
-- leave below 24 digits.
use mathlib.Core.Path.{◌≡◌, sym, ap, ◌∙◌, subst}
use mathlib.Core.Bool.{Bool, cond}
use Prim.Native.Nat.{ℕ, suc, ◌+◌, ◌-◌, ◌*◌, ◌/◌, ◌%◌, ◌^◌, ◌≤◌, ◌<◌}
use native.Mathlib.Nat.{le_trans, lt_of_lt_of_le, lt_of_not-le, not-le_of_lt, le_of_eq, mul_assoc, mul-le-mul_right, mul-lt-mul_of_pos_right}
use native.Mathlib.Omega.{arith}
use lib.Pow.{pow-add, pow_pos, pow_mono}
use lib.Count.{count_leading_zeros, leading_top}
use borrow.Author.Tests.{lt-ltb, le-ltb}
use Rattle.float32.specs.RootSteps.{Scales}

abbrev pub places : ℕ → ℕ
places b = count_leading_zeros 32 b - 8

pub record Moved (b : ℕ) : Type 0 where
  pub enough : 8 ≤ count_leading_zeros 32 b
  pub few : places b ≤ 23
  pub least : 0x80_0000 ≤ b * 2 ^ places b
  pub most : b * 2 ^ places b < 0x100_0000

-- For the leading digit's place j, j + places b is 23.
pub moved : (b : ℕ) → 0 < b → b < 0x80_0000 → Moved b
moved b p h = let l = leading_top 32 b p (omega arith) in go l.0 l.1 l.2 l.3
  where
    go : (j : ℕ) → count_leading_zeros 32 b + suc j ≡ 32 → 2 ^ j ≤ b → b < 2 ^ suc j → Moved b
    go j e low high =
        let j-lt : j < 23 = lt_of_not-le (λ (g : 23 ≤ j). not-le_of_lt h (le_trans (pow_mono g) low)) in
        let sum : j + places b ≡ 23 = omega arith in
        let sum-suc : suc j + places b ≡ 24 = omega arith in
        record {
          enough = omega arith;
          few = omega arith;
          least = subst (λ (z : ℕ). 2 ^ z ≤ b * 2 ^ places b) sum (le_trans (le_of_eq (pow-add 2 j (places b))) (mul-le-mul_right (2 ^ places b) low));
          most =
              subst (λ (z : ℕ). b * 2 ^ places b < 2 ^ z) sum-suc
              (lt_of_lt_of_le (mul-lt-mul_of_pos_right high (pow_pos (places b))) (le_of_eq (sym (pow-add 2 (suc j) (places b)))));
        }

pub subnormal : (b : ℕ) → 0 < b → b < 0x80_0000 → Scales b (b * 2 ^ places b) (126 - places b)
subnormal b p h =
    let s = places b in
    let m = moved b p h in
    record {
      least = m.least;
      most = m.most;
      power = omega arith;
      same =
          mul_assoc b (2 ^ s) (2 ^ (126 - s)) ∙ ap (λ (z : ℕ). b * z) (sym (pow-add 2 s (126 - s)) ∙ ap (λ (z : ℕ). 2 ^ z) (back m.few))
          ∙ sym (ap (λ (t : Bool). cond t b ((0x80_0000 + b % 0x80_0000) * 2 ^ (b / 0x80_0000 - 1)) * 2 ^ 126) (lt-ltb b 0x80_0000 h));
    }
  where
    back : places b ≤ 23 → places b + (126 - places b) ≡ 126
    back h = omega arith

pub normal : (b : ℕ) → 0x80_0000 ≤ b → b < 0x7f80_0000 → Scales b (0x80_0000 + b % 0x80_0000) (b / 0x80_0000 + 125)
normal b h k =
    let m = 0x80_0000 + b % 0x80_0000 in
    record {
      least = omega arith;
      most = omega arith;
      power = omega arith;
      same =
          ap (λ (z : ℕ). m * z) (ap (λ (z : ℕ). 2 ^ z) (field h) ∙ pow-add 2 (b / 0x80_0000 - 1) 126)
          ∙ sym (mul_assoc m (2 ^ (b / 0x80_0000 - 1)) (2 ^ 126))
          ∙ sym (ap (λ (t : Bool). cond t b (m * 2 ^ (b / 0x80_0000 - 1)) * 2 ^ 126) (le-ltb b 0x80_0000 h));
    }
  where
    field : 0x80_0000 ≤ b → b / 0x80_0000 + 125 ≡ b / 0x80_0000 - 1 + 126
    field h = omega arith
