-- What the checks come to, by their outcomes: the answer of each, and what holds of the lengths where they pass.
use Prim.Native.Nat.{ℕ, ◌+◌, ◌*◌, ◌≤◌, ◌<◌}
use native.Mathlib.Omega.{arith}
use mathlib.Core.Bool.{Bool, true, false, cond}
use mathlib.Core.List.{List, [], ◌∷◌}
use mathlib.Core.Path.{◌≡◌, refl, ap}
use lib.Dec.{ltb}
use borrow.Author.Tests.{lt-ltb, le-ltb, ltb-false}
use Rattle.std.specs.Prelude.{⊤, Result, Ok, Err}
use Rattle.base.proofs.Truth.{neither}
use Rattle.octant_bytes.specs.declared.OctantBytesRefusal.{OctantBytesRefusal}
use Rattle.octant_bytes.specs.declared.OctantBytesRefusal.TheVariants.{TooManyIndices, BufferTooShort, AddressTooHigh}
use Rattle.octant_bytes.specs.Answers.{many, answer_of, number_of}
use Rattle.octant_bytes.specs.Bytes.{all_of}
use Rattle.octant_bytes.specs.Steps.Counts.{Few}

-- none is over the limit
pub few : (ns : List ℕ) → many ns ≡ false → Few ns
few [] e = tt
few (n ∷ ns) e = let both = neither (ltb 32768 n) (many ns) e in (ltb-false 32768 n both.0, few ns both.1)

module _ (address : ℕ) (ns : List ℕ) (room : ℕ) where
  pub too_many : many ns ≡ true → Err TooManyIndices ≡ answer_of address ns room
  unfolding answer_of
  too_many m = rw m

  pub too_short : many ns ≡ false → room < 128 + 4 * all_of ns → Err BufferTooShort ≡ answer_of address ns room
  unfolding answer_of
  too_short m short = rw (m, lt-ltb room (128 + 4 * all_of ns) short)

  pub too_high : many ns ≡ false → 128 + 4 * all_of ns ≤ room → 18446744073709551615 < address + 96 + 4 * all_of ns
      → Err AddressTooHigh ≡ answer_of address ns room
  unfolding answer_of
  too_high m long high = rw (m, le-ltb room (128 + 4 * all_of ns) long, lt-ltb 18446744073709551615 (address + 96 + 4 * all_of ns) high)

  pub written : many ns ≡ false → 128 + 4 * all_of ns ≤ room → address + 96 + 4 * all_of ns ≤ 18446744073709551615 → Ok tt ≡ answer_of address ns room
  unfolding answer_of
  written m long low = rw (m, le-ltb room (128 + 4 * all_of ns) long, le-ltb 18446744073709551615 (address + 96 + 4 * all_of ns) low)

-- ---- the checks passed

pub record Passed (address : ℕ) (ns : List ℕ) (room : ℕ) : Type 0 where
  pub few : Few ns
  pub long : 128 + 4 * all_of ns ≤ room
  pub low : address + 96 + 4 * all_of ns ≤ 18446744073709551615

-- the answer by the three tests
abbrev chosen : Bool → Bool → Bool → Result ⊤ OctantBytesRefusal
chosen a b c = cond a (Err TooManyIndices) (cond b (Err BufferTooShort) (cond c (Err AddressTooHigh) (Ok tt)))

none_holds : (a b c : Bool) → chosen a b c ≡ Ok tt → (a ≡ false) × (b ≡ false) × (c ≡ false)
none_holds true b c e = absurd (let n : 1 ≡ 0 = ap number_of e in omega arith)
none_holds false true c e = absurd (let n : 2 ≡ 0 = ap number_of e in omega arith)
none_holds false false true e = absurd (let n : 12 ≡ 0 = ap number_of e in omega arith)
none_holds false false false e = (refl, refl, refl)

pub passed : (address : ℕ) (ns : List ℕ) (room : ℕ) → answer_of address ns room ≡ Ok tt → Passed address ns room
unfolding answer_of
passed address ns room e =
    let h = none_holds (many ns) (ltb room (128 + 4 * all_of ns)) (ltb 18446744073709551615 (address + 96 + 4 * all_of ns)) e in
    record {
      few = few ns h.0;
      long = ltb-false room (128 + 4 * all_of ns) h.1;
      low = ltb-false 18446744073709551615 (address + 96 + 4 * all_of ns) h.2;
    }
