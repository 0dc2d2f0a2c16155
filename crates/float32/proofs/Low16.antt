-- `low16 n` is the number from -32768 to 32767 that is n modulo 65536.
use mathlib.Core.Path.{◌≡◌, sym, ap, ◌∙◌}
use mathlib.Core.Logic.{◌⊎◌, inl, inr}
use mathlib.Core.Bool.{true}
use Prim.Native.Nat.{ℕ, suc, ◌+◌, ◌*◌, ◌-◌, ◌/◌, ◌%◌, ◌≤◌, ◌<◌}
use native.Mathlib.Nat.{lt_of_not-le, mod-eq_of_lt}
use native.Mathlib.Omega.{arith}
use native.Mathlib.Decide.{dec_le}
use lib.Dec.{T, ltb, leb→le, le→leb}
use lib.IntN.{ℤ, pos, negsuc, neg_ℤ, ◌+ℤ◌, ◌-ℤ◌, ◌*ℤ◌, suc_ℤ, suc_ℤ-*ℤ, +ℤ_comm, +ℤ_assoc, -ℤ-+ℤ_cancel}
use lib.Signed.{le_z}
use borrow.Author.Tests.{lt-ltb, le-ltb}
use Rattle.float32.specs.Casts.{low16bits, signed16, low16}

signed_low : (b : ℕ) → b < 32768 → signed16 b ≡ pos b
signed_low b h = rw (lt-ltb b 32768 h)

signed_high : (b : ℕ) → 32768 ≤ b → signed16 b ≡ negsuc (65535 - b)
signed_high b h = rw (le-ltb b 32768 h)

either_half : (b : ℕ) → (b < 32768) ⊎ (32768 ≤ b)
either_half b = go (dec_le 32768 b)
  where
    go : Dec (32768 ≤ b) → (b < 32768) ⊎ (32768 ≤ b)
    go (yes h) = inr h
    go (no h) = inl (lt_of_not-le h)

pub low_lt : (n : ℤ) → low16bits n < 65536
low_lt (pos n) = omega arith
low_lt (negsuc n) = omega arith

pub low16_self : (n : ℤ) → T (le_z (negsuc 32767) n) → T (le_z n (pos 32767)) → low16 n ≡ n
low16_self (pos n) h k =
    let i : n ≤ 32767 = leb→le n 32767 k in
    let j : n % 65536 ≡ n = mod-eq_of_lt (omega arith) in
    rw j (signed_low n (omega arith))
low16_self (negsuc n) h k =
    let i : n ≤ 32767 = leb→le n 32767 h in
    let j : n % 65536 ≡ n = mod-eq_of_lt (omega arith) in
    rw j (signed_high (65535 - n) (omega arith) ∙ ap negsuc (omega arith))

signed_in : (b : ℕ) → T (le_z (negsuc 32767) (signed16 b)) × T (le_z (signed16 b) (pos 32767))
signed_in b =
    elim (either_half b) [
      | inl h ↦ rw (signed_low b h) (tt, le→leb b 32767 (omega arith))
      | inr h ↦ rw (signed_high b h) (le→leb (65535 - b) 32767 (omega arith), tt)
    ]

pub low16_in : (n : ℤ) → T (le_z (negsuc 32767) (low16 n)) × T (le_z (low16 n) (pos 32767))
low16_in n = signed_in (low16bits n)

signed_back : (b : ℕ) → 32768 ≤ b → b < 65536 → signed16 b ≡ pos b -ℤ pos 65536
signed_back b h k = signed_high b h ∙ rw (lt-ltb b 65536 k) (ap negsuc (omega arith))

turn : (b k m : ℤ) → b +ℤ k ≡ b -ℤ m +ℤ (k +ℤ m)
turn b k m = sym (ap (λ (z : ℤ). b -ℤ m +ℤ z) (+ℤ_comm k m) ∙ sym (+ℤ_assoc (b -ℤ m) m k) ∙ ap (λ (z : ℤ). z +ℤ k) (-ℤ-+ℤ_cancel b m))

-- 16 bits, plus a multiple of 65536
congruent : (b : ℕ) (k : ℤ) → b < 65536 → (j : ℤ) × (pos b +ℤ k *ℤ pos 65536 ≡ signed16 b +ℤ j *ℤ pos 65536)
congruent b k h =
    elim (either_half b) [
      | inl l ↦ (k, rw (signed_low b l))
      | inr l ↦ (suc_ℤ k, rw (signed_back b l h, suc_ℤ-*ℤ k (pos 65536)) (turn (pos b) (k *ℤ pos 65536) (pos 65536)))
    ]

multiple : (q : ℕ) → negsuc q *ℤ pos 65536 ≡ negsuc (q * 65536 + 65535)
multiple q = ap (λ (z : ℕ). neg_ℤ (pos z)) same
  where
    same : suc q * 65536 ≡ suc (q * 65536 + 65535)
    same = omega arith

split : (n : ℤ) → (k : ℤ) × (n ≡ pos (low16bits n) +ℤ k *ℤ pos 65536)
split (pos n) = (pos (n / 65536), ap pos (omega arith))
split (negsuc n) =
    let i : ltb (65535 - n % 65536) (suc (n / 65536 * 65536 + 65535)) ≡ true = lt-ltb (65535 - n % 65536) (suc (n / 65536 * 65536 + 65535)) (omega arith) in
    (negsuc (n / 65536), rw (multiple (n / 65536), i) (ap negsuc (omega arith)))

pub low16_congruent : (n : ℤ) → (k : ℤ) × (n ≡ low16 n +ℤ k *ℤ pos 65536)
low16_congruent n =
    let s = split n in
    let c = congruent (low16bits n) s.0 (low_lt n) in
    (c.0, s.1 ∙ c.1)
