-- The words of a list of items, and the words that a buffer holds once some of the items are taken apart.
use Rattle.std.specs.Prelude.{◌≡◌, ℕ, ◌+◌, ◌*◌, ◌<◌, ◌≤◌, List, [], ◌∷◌, ◌++◌, length, get_or, take, drop}
use native.Mathlib.Numerals.{add-one}
use native.Mathlib.Omega.{arith}
use mathlib.Core.Path.{refl, sym, ap, ◌∙◌}
use lib.ListN.{length-append, length-drop}
use lib.Seq.{sets, take-suc, take-length, length-take-le}
use Rattle.base.specs.Lists.{over}
use Rattle.base.proofs.StoreLaws.{over_next}
use Rattle.bvh.specs.declared.items.BvhItem.{BvhItem}
use Rattle.bvh.specs.Items.{absent, item_words, words_of}

pub length_words : (items : List BvhItem) → length (words_of items) ≡ 7 * length items
length_words [] = refl
length_words (i ∷ is) = let h = length_words is in omega arith

words_append : (xs ys : List BvhItem) → words_of (xs ++ ys) ≡ words_of xs ++ words_of ys
words_append [] ys = refl
words_append (x ∷ xs) ys = ap (λ (l : List ℕ). item_words x ++ l) (words_append xs ys)

-- the words once the first k items are taken apart
abbrev pub apart : List BvhItem → List ℕ → ℕ → List ℕ
apart items ws k = over (words_of (take k items)) ws

module _ (items : List BvhItem) (ws : List ℕ) (k : ℕ) where
  length_front : k ≤ length items → length (words_of (take k items)) ≡ 7 * k
  length_front h = length_words (take k items) ∙ ap (λ (m : ℕ). 7 * m) (length-take-le k items h)

  pub length_apart : k ≤ length items → 7 * k ≤ length ws → length (apart items ws k) ≡ length ws
  length_apart h room = simp (length-append, length-drop) (omega (arith, length_front h))

  -- one more item
  pub apart_next : k < length items → 7 * k + 7 ≤ length ws → sets (apart items ws k) (7 * k) (item_words (get_or items k absent)) ≡ apart items ws (k + 1)
  apart_next h room =
      let x : BvhItem = get_or items k absent in
      let more : words_of (take (k + 1) items) ≡ words_of (take k items) ++ item_words x =
      rw (add-one, take-suc items k absent) (words_append (take k items) (x ∷ [])) in
      over_next (words_of (take k items)) (item_words x) ws (7 * k) (length_front (omega arith)) room ∙ ap (λ (l : List ℕ). over l ws) (sym more)

pub apart_all : (items : List BvhItem) (ws : List ℕ) → apart items ws (length items) ≡ words_of items ++ drop (7 * length items) ws
apart_all items ws = rw (take-length, length_words)
