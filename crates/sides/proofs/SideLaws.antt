-- Where a side leads to, its key, and the sides that are there, one more at a time.
use Prim.Native.Nat.{ℕ, ◌+◌, ◌-◌, ◌*◌, ◌%◌, ◌≤◌, ◌<◌}
use native.Mathlib.Omega.{arith}
use native.Mathlib.Nat.{zero-add}
use native.Mathlib.Numerals.{add-one}
use mathlib.Core.Path.{◌≡◌, refl, sym, ap, ◌∙◌}
use mathlib.Core.Bool.{Bool, true, false, not, cond}
use mathlib.Core.List.{List, [], ◌∷◌, ◌++◌, append-nil}
use lib.Dec.{eqb, ltb}
use lib.ListN.{length, get_or, set, take}
use lib.Seq.{take-suc-set}
use borrow.Author.Tests.{eqb-false, eq-eqb, ne_eqb, lt-ltb, le-ltb}
use Rattle.base.specs.Lists.{sift, up_from}
use Rattle.corners.specs.Corners.{none, next_of, there, Corners}
use Rattle.sides.specs.Sides.{pair_of, key_of}
use Rattle.sides.proofs.SiftLaws.{sift_front, sift_past}
use Rattle.sides.proofs.UpFromLaws.{counting_more}

-- ---- where a side leads to

pub leads_back : (s : ℕ) → s % 3 ≡ 2 → s - 2 ≡ next_of s
unfolding next_of
leads_back s e = rw (eq-eqb (s % 3) 2 e)

pub leads_on : (s : ℕ) → (s % 3 ≡ 2 → ⊥) → s + 1 ≡ next_of s
unfolding next_of
leads_on s e = rw (ne_eqb (s % 3) 2 e)

pub leads_within : (s n : ℕ) → s < n → n % 3 ≡ 0 → next_of s < n
unfolding next_of
leads_within s n h w = go (eqb (s % 3) 2) refl
  where
    go : (b : Bool) → eqb (s % 3) 2 ≡ b → cond b (s - 2) (s + 1) < n
    go true e = omega arith
    go false e = let ne : s % 3 ≡ 2 → ⊥ = eqb-false (s % 3) 2 e in omega arith

-- ---- its key

pub pair_up : (a b : ℕ) → a < b → a * 32768 + b ≡ pair_of a b
unfolding pair_of
pair_up a b h = rw (lt-ltb a b h)

pub pair_down : (a b : ℕ) → b ≤ a → b * 32768 + a ≡ pair_of a b
unfolding pair_of
pair_down a b h = rw (le-ltb a b h)

pair_below : (a b : ℕ) → a < 32768 → b < 32768 → pair_of a b < 1073741824
unfolding pair_of
pair_below a b h k = go (ltb a b)
  where
    go : (t : Bool) → cond t (a * 32768 + b) (b * 32768 + a) < 1073741824
    go true = omega arith
    go false = omega arith

pub key_below : (cs : List ℕ) → Corners cs → (s : ℕ) → s < length cs → there cs s ≡ true → key_of cs s < 1073741824
unfolding key_of
key_below cs c s h t = pair_below (get_or cs s 0) (get_or cs (next_of s) 0) (c.small s h t).0 (c.small s h t).1

module _ (cs sides : List ℕ) (k s : ℕ) (e : take k sides ≡ sift (there cs) (up_from 0 s)) where
  one_more : sift (there cs) (up_from 0 (s + 1)) ≡ take k sides ++ sift (there cs) (s ∷ [])
  one_more =
      ap (λ (n : ℕ). sift (there cs) (up_from 0 n)) (add-one s)
      ∙ counting_more (there cs) 0 s
      ∙ ap (λ (n : ℕ). sift (there cs) (up_from 0 s) ++ sift (there cs) (n ∷ [])) (zero-add s)
      ∙ ap (λ (l : List ℕ). l ++ sift (there cs) (s ∷ [])) (sym e)

  pub side_absent : get_or cs s 0 ≡ none → take k sides ≡ sift (there cs) (up_from 0 (s + 1))
  side_absent a =
      let f : there cs s ≡ false = ap not (eq-eqb (get_or cs s 0) none a) in
      sym (one_more ∙ ap (λ (l : List ℕ). take k sides ++ l) (sift_past (there cs) s [] f) ∙ append-nil (take k sides))

  pub side_there : (get_or cs s 0 ≡ none → ⊥) → k < length sides → take (k + 1) (set sides k s) ≡ sift (there cs) (up_from 0 (s + 1))
  side_there a h =
      let t : there cs s ≡ true = ap not (ne_eqb (get_or cs s 0) none a) in
      ap (λ (n : ℕ). take n (set sides k s)) (add-one k)
      ∙ take-suc-set sides k s h
      ∙ sym (one_more ∙ ap (λ (l : List ℕ). take k sides ++ l) (sift_front (there cs) s [] t))
