-- The copies of `unite` and of `settle`: two groups in one list, either first, and the second half of a list kept aside.
use Prim.Native.Nat.{ℕ, ◌+◌, ◌-◌, ◌≤◌}
use native.Mathlib.Omega.{arith}
use native.Mathlib.Nat.{zero-add}
use mathlib.Core.Path.{◌≡◌, sym, ap, ◌∙◌}
use mathlib.Core.List.{List, [], ◌++◌, append-nil}
use lib.ListN.{length, take, drop, length-drop, drop_of_length-le}
use lib.Seq.{paste, take-paste, take_all}

module _ (ps t : List ℕ) (k : ℕ) (inside : k ≤ length ps) (room : length ps ≤ length t) where
  -- group one behind group two, and both back
  pub two_first : (t₁ w : List ℕ) → t₁ ≡ paste t (length ps - k) ps k → w ≡ paste ps 0 t₁ (length ps) → w ≡ take (length ps - k) t ++ take k ps
  two_first t₁ w e f =
      let m : ℕ = length ps - k in
      let none : drop (0 + length ps) ps ≡ [] = drop_of_length-le ps {i = 0 + length ps} (omega arith) in
      let sum : length ps ≡ m + k = omega arith in
      f ∙ rw (none, append-nil) (ap (take (length ps)) e ∙ ap (λ (j : ℕ). take j (paste t m ps k)) sum ∙ take-paste t m ps k (omega arith) inside)

  -- group two behind group one
  pub one_first : (w : List ℕ) → w ≡ paste ps k t (length ps - k) → w ≡ take k ps ++ take (length ps - k) t
  one_first w e =
      let none : drop (k + (length ps - k)) ps ≡ [] = drop_of_length-le ps {i = k + (length ps - k)} (omega arith) in
      e ∙ rw (none, append-nil)

-- what stands from h on, kept at the front of another list
pub kept_aside : (s t t₁ : List ℕ) (h n : ℕ) → n ≡ length s → h ≤ n → n ≤ length t → t₁ ≡ paste t 0 (take (n - h) (drop h s)) (n - h)
    → take (length s - h) t₁ ≡ drop h s
kept_aside s t t₁ h n e le room f =
    let m : ℕ = n - h in
    let size : length (drop h s) ≤ m = omega (arith, length-drop h s) in
    let part : take m (drop h s) ≡ drop h s = take_all m (drop h s) size in
    let long : length (take m (drop h s)) ≡ m = ap length part ∙ omega (arith, length-drop h s) in
    ap (λ (j : ℕ). take (j - h) t₁) (sym e)
    ∙ ap (take m) f
    ∙ ap (λ (j : ℕ). take j (paste t 0 (take m (drop h s)) m)) (sym (zero-add m))
    ∙ take-paste t 0 (take m (drop h s)) m (omega arith) (omega arith)
    ∙ ap (take m) part
    ∙ part
