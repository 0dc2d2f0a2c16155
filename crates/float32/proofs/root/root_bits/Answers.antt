-- `root::root_bits` meets its contract: by the bounds of `Radicand` nothing is lost in a word, so the code's steps are those of `root_bits`.
use mathlib.Core.Path.{◌≡◌, sym, ap, ◌∙◌, subst}
use mathlib.Core.Bool.{Bool, cond}
use Prim.Native.Nat.{ℕ, ◌+◌, ◌-◌, ◌*◌, ◌%◌, ◌^◌, ◌≤◌, ◌<◌}
use native.Mathlib.Nat.{mul-le-mul}
use native.Mathlib.Omega.{arith}
use borrow.Author.Tests.{lt-ltb, le-ltb}
use Rattle.float32.specs.SquareRoot.{isqrt}
use Rattle.float32.specs.RootSteps.{radicand, rounded}
use Rattle.float32.proofs.root.WholeRoot.{isqrt_is}
use Rattle.float32.proofs.root.Radicand.{radicand_lt, in_word, root_le}
use Rattle.float32.proofs.root.root_bits.Goals as goal

-- what the test found of n' and q', the machine's n and q
up : (x n n' q q' : ℕ) → n' ≡ n → q' ≡ q → q' < n' - q' * q' → x + (q' + 1) ≡ x + rounded n q
up x n n' q q' e k t =
    ap (λ (z : ℕ). x + (z + 1)) k
    ∙ sym (ap (λ (b : Bool). x + cond b (q + 1) q) (lt-ltb q (n - q * q) (subst (λ (z : ℕ). z < n - z * z) k (subst (λ (z : ℕ). q' < z - q' * q') e t))))

stays : (x n n' q q' : ℕ) → n' ≡ n → q' ≡ q → n' - q' * q' ≤ q' → x + q' ≡ x + rounded n q
stays x n n' q q' e k t =
    ap (λ (z : ℕ). x + z) k
    ∙ sym (ap (λ (b : Bool). x + cond b (q + 1) q) (le-ltb q (n - q * q) (subst (λ (z : ℕ). n - z * z ≤ z) k (subst (λ (z : ℕ). z - q' * q' ≤ q') e t))))

pub isqrt-root-requires : goal.isqrt-root-requires
isqrt-root-requires c =
    let radicand-of : ℕ = radicand c.args.significand c.args.exponent in
    let n-is : radicand-of % 2 ^ 64 ≡ radicand-of = in_word c.args.significand c.args.exponent c.requires.0 c.requires.1 in
    let small = radicand_lt c.args.significand c.args.exponent c.requires.0 c.requires.1 in
    (subst (λ (n : ℕ). n < 2 ^ 48) (sym n-is) small, c.guess.ensures.0, c.guess.ensures.1)

pub overflow_mul-root : goal.overflow_mul-root
overflow_mul-root c =
    let radicand-of : ℕ = radicand c.args.significand c.args.exponent in
    let n-is : radicand-of % 2 ^ 64 ≡ radicand-of = in_word c.args.significand c.args.exponent c.requires.0 c.requires.1 in
    let q_is : c.isqrt-root.result ≡ isqrt radicand-of = c.isqrt-root.ensures ∙ ap isqrt n-is in
    let q-le : c.isqrt-root.result ≤ 0xff_ffff = subst (λ (q : ℕ). q ≤ 0xff_ffff) (sym q_is) (root_le c.args.significand c.args.exponent c.requires.0 c.requires.1) in
    omega (arith, mul-le-mul q-le q-le)

pub overflow_sub-n : goal.overflow_sub-n
overflow_sub-n c =
    let radicand-of : ℕ = radicand c.args.significand c.args.exponent in
    let n-is : radicand-of % 2 ^ 64 ≡ radicand-of = in_word c.args.significand c.args.exponent c.requires.0 c.requires.1 in
    let q_is : c.isqrt-root.result ≡ isqrt radicand-of = c.isqrt-root.ensures ∙ ap isqrt n-is in
    let n = radicand-of in
    subst (λ (q : ℕ). q * q ≤ n % 2 ^ 64) (sym q_is) (subst (λ (x : ℕ). isqrt n * isqrt n ≤ x) (sym n-is) (isqrt_is n).low)

pub overflow_add-result : goal.overflow_add-result
overflow_add-result c =
    let radicand-of : ℕ = radicand c.args.significand c.args.exponent in
    let n-is : radicand-of % 2 ^ 64 ≡ radicand-of = in_word c.args.significand c.args.exponent c.requires.0 c.requires.1 in
    let q_is : c.isqrt-root.result ≡ isqrt radicand-of = c.isqrt-root.ensures ∙ ap isqrt n-is in
    let q-le : c.isqrt-root.result ≤ 0xff_ffff = subst (λ (q : ℕ). q ≤ 0xff_ffff) (sym q_is) (root_le c.args.significand c.args.exponent c.requires.0 c.requires.1) in
    omega (arith, q-le)

pub overflow_cast-result : goal.overflow_cast-result
overflow_cast-result c =
    let radicand-of : ℕ = radicand c.args.significand c.args.exponent in
    let n-is : radicand-of % 2 ^ 64 ≡ radicand-of = in_word c.args.significand c.args.exponent c.requires.0 c.requires.1 in
    let q_is : c.isqrt-root.result ≡ isqrt radicand-of = c.isqrt-root.ensures ∙ ap isqrt n-is in
    let q-le : c.isqrt-root.result ≤ 0xff_ffff = subst (λ (q : ℕ). q ≤ 0xff_ffff) (sym q_is) (root_le c.args.significand c.args.exponent c.requires.0 c.requires.1) in
    omega (arith, q-le)

pub overflow_add-result-then-n-root : goal.overflow_add-result-then-n-root
overflow_add-result-then-n-root c =
    let radicand-of : ℕ = radicand c.args.significand c.args.exponent in
    let n-is : radicand-of % 2 ^ 64 ≡ radicand-of = in_word c.args.significand c.args.exponent c.requires.0 c.requires.1 in
    let q_is : c.isqrt-root.result ≡ isqrt radicand-of = c.isqrt-root.ensures ∙ ap isqrt n-is in
    let q-le : c.isqrt-root.result ≤ 0xff_ffff = subst (λ (q : ℕ). q ≤ 0xff_ffff) (sym q_is) (root_le c.args.significand c.args.exponent c.requires.0 c.requires.1) in
    omega (arith, q-le)

pub overflow_cast-result-else-n-root : goal.overflow_cast-result-else-n-root
overflow_cast-result-else-n-root c =
    let radicand-of : ℕ = radicand c.args.significand c.args.exponent in
    let n-is : radicand-of % 2 ^ 64 ≡ radicand-of = in_word c.args.significand c.args.exponent c.requires.0 c.requires.1 in
    let q_is : c.isqrt-root.result ≡ isqrt radicand-of = c.isqrt-root.ensures ∙ ap isqrt n-is in
    let q-le : c.isqrt-root.result ≤ 0xff_ffff = subst (λ (q : ℕ). q ≤ 0xff_ffff) (sym q_is) (root_le c.args.significand c.args.exponent c.requires.0 c.requires.1) in
    omega (arith, q-le)

pub overflow_add-result-else-n-root : goal.overflow_add-result-else-n-root
overflow_add-result-else-n-root c =
    let radicand-of : ℕ = radicand c.args.significand c.args.exponent in
    let n-is : radicand-of % 2 ^ 64 ≡ radicand-of = in_word c.args.significand c.args.exponent c.requires.0 c.requires.1 in
    let q_is : c.isqrt-root.result ≡ isqrt radicand-of = c.isqrt-root.ensures ∙ ap isqrt n-is in
    let q-le : c.isqrt-root.result ≤ 0xff_ffff = subst (λ (q : ℕ). q ≤ 0xff_ffff) (sym q_is) (root_le c.args.significand c.args.exponent c.requires.0 c.requires.1) in
    omega (arith, q-le)

pub returns-then-n-root : goal.returns-then-n-root
returns-then-n-root c =
    let radicand-of : ℕ = radicand c.args.significand c.args.exponent in
    let n-is : radicand-of % 2 ^ 64 ≡ radicand-of = in_word c.args.significand c.args.exponent c.requires.0 c.requires.1 in
    let q_is : c.isqrt-root.result ≡ isqrt radicand-of = c.isqrt-root.ensures ∙ ap isqrt n-is in
    up _ _ _ _ _ n-is q_is c.if-n-root.true

pub returns-else-n-root : goal.returns-else-n-root
returns-else-n-root c =
    let radicand-of : ℕ = radicand c.args.significand c.args.exponent in
    let n-is : radicand-of % 2 ^ 64 ≡ radicand-of = in_word c.args.significand c.args.exponent c.requires.0 c.requires.1 in
    let q_is : c.isqrt-root.result ≡ isqrt radicand-of = c.isqrt-root.ensures ∙ ap isqrt n-is in
    stays _ _ _ _ _ n-is q_is c.if-n-root.false
