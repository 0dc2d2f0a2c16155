-- Records that are written one after the other are read back in order, so the lines of those that stand in the bytes are their lines, numbered.
use Rattle.std.specs.Prelude.{◌≡◌, ℕ, ◌+◌, ◌*◌, List, [], ◌∷◌, ◌++◌, length}
use native.Mathlib.Nat.{add-zero}
use native.Mathlib.Numerals.{add-one}
use native.Mathlib.Omega.{arith}
use mathlib.Core.List.{append_assoc, append-nil}
use mathlib.Core.Path.{sym, ap, ◌∙◌, subst}
use lib.ListN.{length-append}
use Rattle.listing.specs.Lines.{lines}
use Rattle.listing.specs.Listing.{numbered}

abbrev pub joined : {A : Type 0} → (A → List ℕ) → List A → List ℕ
joined bytes_of [] = []
joined bytes_of (x ∷ xs) = bytes_of x ++ joined bytes_of xs

abbrev pub Each : {A : Type 0} → (A → Type 0) → List A → Type 0
Each P [] = Unit {0}
Each P (x ∷ xs) = P x × Each P xs

-- Record k and those after it are read from the bytes.
abbrev pub Reads : {A : Type 0} → (List ℕ → ℕ → A) → List ℕ → ℕ → List A → Type 0
Reads readAt bytes k [] = Unit {0}
Reads readAt bytes k (x ∷ xs) = (readAt bytes (16 * k) ≡ x) × Reads readAt bytes (k + 1) xs

module _ {A : Type 0} (bytes_of : A → List ℕ) (readAt : List ℕ → ℕ → A) (Fits : A → Type 0) (sixteen : (x : A) → length (bytes_of x) ≡ 16)
    (back : (p rest : List ℕ) (at : ℕ) (x : A) → length p ≡ at → Fits x → readAt (p ++ (bytes_of x ++ rest)) at ≡ x) where
  pub reads_back : (p rest : List ℕ) (k : ℕ) (xs : List A) → length p ≡ 16 * k → Each Fits xs → Reads readAt (p ++ (joined bytes_of xs ++ rest)) k xs
  reads_back p rest k [] e f = tt
  reads_back p rest k (x ∷ xs) e f =
      let more : length (p ++ bytes_of x) ≡ 16 * (k + 1) = length-append p (bytes_of x) ∙ omega (arith, sixteen x) in
      let first : p ++ (bytes_of x ++ (joined bytes_of xs ++ rest)) ≡ p ++ (bytes_of x ++ joined bytes_of xs ++ rest) =
      ap (λ (l : List ℕ). p ++ l) (sym (append_assoc (bytes_of x) (joined bytes_of xs) rest)) in
      let whole : p ++ bytes_of x ++ (joined bytes_of xs ++ rest) ≡ p ++ (bytes_of x ++ joined bytes_of xs ++ rest) =
      append_assoc p (bytes_of x) (joined bytes_of xs ++ rest) ∙ first in (
        subst (λ (l : List ℕ). readAt l (16 * k) ≡ x) first (back p (joined bytes_of xs ++ rest) (16 * k) x e f.0),
        subst (λ (l : List ℕ). Reads readAt l (k + 1) xs) whole (reads_back (p ++ bytes_of x) rest (k + 1) xs more f.1),
      )

module _ {A : Type 0} (readAt : List ℕ → ℕ → A) (line : ℕ → A → List ℕ) (bytes : List ℕ) where
  -- line i of what stands in the bytes
  abbrev read : ℕ → List ℕ
  read i = line i (readAt bytes (16 * i))

  pub lines_numbered : (k : ℕ) (xs : List A) → Reads readAt bytes k xs
      → lines (λ i. line i (readAt bytes (16 * i))) (k + length xs) ≡ lines (λ i. line i (readAt bytes (16 * i))) k ++ numbered line k xs
  lines_numbered k [] r = ap (lines read) (add-zero k) ∙ sym (append-nil (lines read k))
  lines_numbered k (x ∷ xs) r =
      let far : k + length (x ∷ xs) ≡ k + 1 + length xs = omega arith in
      let one : lines read (k + 1) ≡ lines read k ++ line k x = ap (lines read) (add-one k) ∙ ap (λ (y : A). lines read k ++ line k y) r.0 in
      ap (lines read) far
      ∙ lines_numbered (k + 1) xs r.1
      ∙ ap (λ (l : List ℕ). l ++ numbered line (k + 1) xs) one
      ∙ append_assoc (lines read k) (line k x) (numbered line (k + 1) xs)
