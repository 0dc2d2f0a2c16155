-- What is put of each of a list, one after the other, at the start of a buffer.
use Prim.Native.Nat.{ℕ, ◌+◌, ◌*◌, ◌≤◌, ◌<◌}
use native.Mathlib.Omega.{arith}
use native.Mathlib.Nat.{mul-le-mul_right}
use native.Mathlib.Numerals.{add-one}
use mathlib.Core.List.{List, [], ◌∷◌, ◌++◌, append_assoc, append-nil}
use mathlib.Core.Path.{◌≡◌, refl, sym, ap, ◌∙◌}
use lib.ListN.{length, get_or, take, length-append}
use lib.Seq.{sets, length-sets, length-take-le, take-suc, take_all}
use Rattle.base.proofs.StoreLaws.{over_next}
use Rattle.base.specs.Lists.{over}
use Rattle.hex_lines.specs.Hex.{each_of, byte_text}

module _ {A : Type 0} (f : A → List ℕ) (k : ℕ) (size : (x : A) → length (f x) ≡ k) where
  pub length_each : (xs : List A) → length (each_of f xs) ≡ k * length xs
  length_each [] = omega arith
  length_each (x ∷ xs) = omega (arith, length-append (f x) (each_of f xs), size x, length_each xs)

  each_more : (xs : List A) (x : A) → each_of f (xs ++ (x ∷ [])) ≡ each_of f xs ++ f x
  each_more [] x = append-nil (f x)
  each_more (y ∷ xs) x = ap (λ (l : List ℕ). f y ++ l) (each_more xs x) ∙ sym (append_assoc (f y) (each_of f xs) (f x))

-- The first i are put.
pub record Putting {A : Type 0} (f : A → List ℕ) (xs : List A) (before after : List ℕ) (i : ℕ) : Type 0 where
  pub upto : i ≤ length xs
  pub same : length after ≡ length before
  pub held : after ≡ over (each_of f (take i xs)) before

pub none_put : {A : Type 0} (f : A → List ℕ) (xs : List A) (before : List ℕ) → Putting f xs before before 0
none_put f xs before = record { upto = omega arith; same = refl; held = refl }

mul_room : (k i n m : ℕ) → i < n → k * n ≤ m → k * i + k ≤ m
mul_room k i n m h room = omega (arith, mul-le-mul_right k h)

pub next_put : {A : Type 0} (f : A → List ℕ) (k : ℕ) (size : (x : A) → length (f x) ≡ k) (xs : List A) (before after last : List ℕ) (i : ℕ) (x : A)
    → Putting f xs before after i → i < length xs → x ≡ get_or xs i x → k * length xs ≤ length before → last ≡ sets after (k * i) (f x)
    → Putting f xs before last (i + 1)
next_put {A = A} f k size xs before after last i x p h there room e =
    let full : length (each_of f (take i xs)) ≡ k * i = length_each f k size (take i xs) ∙ ap (λ (n : ℕ). k * n) (length-take-le i xs (omega arith)) in
    let more : k * i + k ≤ length before = mul_room k i (length xs) (length before) h room in
    record {
      upto = omega arith;
      same = ap length e ∙ length-sets after (k * i) (f x) ∙ p.same;
      held =
          e
          ∙ ap (λ (l : List ℕ). sets l (k * i) (f x)) p.held
          ∙ over_next (each_of f (take i xs)) (f x) before (k * i) full (omega (arith, more, size x))
          ∙ ap (λ (l : List ℕ). over l before) (sym (each_more f k size (take i xs) x) ∙ ap (λ (y : A). each_of f (take i xs ++ (y ∷ []))) there ∙ ap (each_of f) (sym (take-suc xs i x h)))
          ∙ ap (λ (j : ℕ). over (each_of f (take j xs)) before) (sym (add-one i));
    }

pub all_put : {A : Type 0} (f : A → List ℕ) (xs : List A) (before after : List ℕ) (i : ℕ) → Putting f xs before after i → length xs ≤ i → after ≡ over (each_of f xs) before
all_put {A = A} f xs before after i p h = p.held ∙ ap (λ (l : List A). over (each_of f l) before) (take_all i xs h)

pub byte_size : (b : ℕ) → length (byte_text b) ≡ 2
unfolding byte_text
byte_size b = refl
