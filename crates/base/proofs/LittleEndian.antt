-- Whole numbers as bytes: how many bytes, one more of a run of stores, and that what was written is read back. By induction on the number of bytes.
use mathlib.Core.Path.{◌≡◌, refl, sym, ap, ap₂, ◌∙◌}
use mathlib.Core.Bool.{true, ◌&&◌, and_assoc}
use mathlib.Core.List.{List, [], ◌∷◌, ◌++◌}
use Prim.Native.Nat.{ℕ, zero, suc, ◌+◌, ◌-◌, ◌*◌, ◌/◌, ◌%◌, ◌^◌, ◌≤◌, ◌<◌}
use native.Mathlib.Nat.{add_assoc, pow-suc, div-lt_iff_lt-mul}
use native.Mathlib.Omega.{arith}
use lib.Dec.{ltb, lit≤}
use lib.ListN.{length, get_or, set, replicate, length-append, get_or-eq_default}
use lib.Pow.{are_bytes}
use lib.Seq.{sets, get_or-append-add}
use borrow.Author.Tests.{lt-ltb}
use Rattle.base.specs.LittleEndian.{little_endian, le_at}

-- ---- how many

-- l is `n` bytes.
pub record Bytes (n : ℕ) (l : List ℕ) : Type 0 where
  pub size : length l ≡ n
  pub each : are_bytes l ≡ true

each_joined : (a b : List ℕ) → are_bytes (a ++ b) ≡ are_bytes a && are_bytes b
each_joined [] b = refl
each_joined (d ∷ ds) b = ap (◌&&◌ (ltb d 256)) (each_joined ds b) ∙ sym (and_assoc (ltb d 256) (are_bytes ds) (are_bytes b))

pub joined : {m n : ℕ} {a b : List ℕ} → Bytes m a → Bytes n b → Bytes (m + n) (a ++ b)
joined {m} {n} {a} {b} p q =
    record {
      size = length-append a b ∙ ap₂ ◌+◌ p.size q.size;
      each = each_joined a b ∙ ap₂ ◌&&◌ p.each q.each;
    }

pub number_bytes : (n x : ℕ) → Bytes n (little_endian n x)
unfolding little_endian
number_bytes zero x = record { size = refl; each = refl }
number_bytes (suc n) x =
    let low : x % 256 < 256 = omega arith in
    let rest = number_bytes n (x / 256) in
    record { size = ap suc rest.size; each = ap₂ ◌&&◌ (lt-ltb (x % 256) 256 low) rest.each }

pub zero_bytes : (n : ℕ) → Bytes n (replicate n 0)
zero_bytes zero = record { size = refl; each = refl }
zero_bytes (suc n) = record { size = ap suc (zero_bytes n).size; each = (zero_bytes n).each }

-- ---- writing

-- The lowest byte is stored, and the rest from the next place on.
pub store_lowest : (out : List ℕ) (at size i n : ℕ) → i < size
    → sets (set out (at + i) (n % 256)) (at + (i + 1)) (little_endian (size - (i + 1)) (n / 256)) ≡ sets out (at + i) (little_endian (size - i) n)
unfolding little_endian
store_lowest out at size i n h =
    let less : size - i ≡ suc (size - (i + 1)) = omega arith in
    let next : at + (i + 1) ≡ suc (at + i) = omega arith in
    ap (λ (k : ℕ). sets (set out (at + i) (n % 256)) k (little_endian (size - (i + 1)) (n / 256))) next
    ∙ sym (ap (λ (k : ℕ). sets out (at + i) (little_endian k n)) less)

-- The bytes of 0 are zeros.
pub zeros : (size : ℕ) → little_endian size 0 ≡ replicate size 0
unfolding little_endian
zeros zero = refl
zeros (suc size) = ap {B = List ℕ} (λ r. 0 ∷ r) (zeros size)

pub zeros_stored : (a : List ℕ) (at size : ℕ) {b : List ℕ} → b ≡ sets a at (little_endian size 0) → b ≡ sets a at (replicate size 0)
zeros_stored a at size e = e ∙ ap (sets a at) (zeros size)

-- ---- reading

-- What stands after p is read as if it stood alone.
pub le_after : (size : ℕ) (p q : List ℕ) (at j : ℕ) → length p ≡ at → le_at size (p ++ q) (at + j) ≡ le_at size q j
unfolding le_at
le_after zero p q at j e = refl
le_after (suc size) p q at j e =
    ap₂ (λ (b n : ℕ). b + 256 * n)
    (ap (λ (k : ℕ). get_or (p ++ q) (k + j) 0) (sym e) ∙ get_or-append-add p q j 0)
    (ap (le_at size (p ++ q)) (add_assoc at j 1) ∙ le_after size p q at (j + 1) e)

-- A number that was written is read back.
pub le_back : (size n : ℕ) (rest : List ℕ) → n < 256 ^ size → le_at size (little_endian size n ++ rest) 0 ≡ n
unfolding le_at little_endian
le_back zero n rest h = omega arith
le_back (suc size) n rest h =
    let q = little_endian size (n / 256) ++ rest in
    let less : n / 256 < 256 ^ size = (div-lt_iff_lt-mul (lit≤ tt)).1 (rw (pow-suc 256 size) at h) in
    let high : le_at size (n % 256 ∷ q) 1 ≡ n / 256 = le_after size (n % 256 ∷ []) q 1 0 refl ∙ le_back size (n / 256) rest less in
    ap (λ (k : ℕ). n % 256 + 256 * k) high ∙ omega arith

-- Past the bytes there is 0.
pub le_past : (size : ℕ) (bytes : List ℕ) (k : ℕ) → length bytes ≤ k → le_at size bytes k ≡ 0
unfolding le_at
le_past zero bytes k h = refl
le_past (suc size) bytes k h =
    ap₂ (λ (b n : ℕ). b + 256 * n) (get_or-eq_default bytes 0 {n = k} h) (le_past size bytes (k + 1) (omega arith))
