-- The items that the children give: as many as there are children, each at its number, those of the present ones listed; and that a box whose words are
-- stored is read back. By induction on the children.
use Rattle.std.specs.Prelude.{◌≡◌, ℕ, zero, suc, ◌+◌, ◌*◌, ◌<◌, ◌≤◌, Bool, true, false, cond, List, ◌∷◌, length, get_or}
use native.Mathlib.Nat.{add-zero}
use native.Mathlib.Decide.{dec_le}
use native.Mathlib.Omega.{arith}
use mathlib.Core.Bool.{false≢true}
use mathlib.Core.List.{Memᴰ}
use mathlib.Core.Logic.{⊎_elim}
use mathlib.Core.Path.{refl, sym, ap, ◌∙◌, subst}
use lib.Ieee.{binary32}
use lib.Ieee.Bits.{of_bits-to_bits}
use lib.Ieee.Fits.{add-fits, sub-fits}
use lib.Seq.{sets, length-sets}
use Rattle.bvh.proofs.ItemWords.{apart, apart_next}
use Rattle.base.specs.Lists.{Among}
use Rattle.base.proofs.ListLaws.{among_cases}
use Rattle.bvh.specs.Items.{absent, is_marked, item_box, item_words, present, box_in}
use Rattle.bvh.specs.declared.items.BvhItem.{BvhItem}
use Rattle.math.specs.Stored.{bits_of}
use Rattle.math.specs.Transform.{transform_box}
use Rattle.tree.specs.Pair.{box_values}
use Rattle.composite.specs.Children.{mark_of, is_present, computed_box}
use Rattle.composite.specs.Trees.{child_item, child_items}

module _ (ws : List ℕ) where
  pub length_items : (at n : ℕ) → length (child_items ws at n) ≡ n
  length_items at zero = refl
  length_items at (suc n) = ap suc (length_items (at + 1) n)

  item_from : (at n k : ℕ) → k < n → get_or (child_items ws at n) k absent ≡ child_item ws (at + k)
  item_from at zero k h = absurd (omega arith)
  item_from at (suc n) zero h = ap (child_item ws) (sym (add-zero at))
  item_from at (suc n) (suc k) h =
      let e : at + 1 + k ≡ at + suc k = omega arith in
      item_from (at + 1) n k (omega arith) ∙ ap (child_item ws) e

  -- the item of child k
  pub item_at : (n k : ℕ) → k < n → get_or (child_items ws 0 n) k absent ≡ child_item ws k
  item_at n k h = let e : 0 + k ≡ k = omega arith in item_from 0 n k h ∙ ap (child_item ws) e

-- ---- the words of the items

-- The loop of `put_items`: the first i items are in words.
pub record Making (items : List BvhItem) (before now : List ℕ) (i : ℕ) : Type 0 where
  pub len : length now ≡ length before
  pub made : now ≡ apart items before i

pub start : (items : List BvhItem) (before : List ℕ) → Making items before before 0
start items before = record { len = refl; made = refl }

pub one_more : (items : List BvhItem) (x : BvhItem) (before now after : List ℕ) (i : ℕ) → Making items before now i → i < length items
    → 7 * i + 7 ≤ length before → x ≡ get_or items i absent → after ≡ sets now (7 * i) (item_words x) → Making items before after (i + 1)
one_more items x before now after i g h room e a =
    record {
      len = ap length a ∙ length-sets now (7 * i) (item_words x) ∙ g.len;
      made =
          a
          ∙ ap (λ (l : List ℕ). sets l (7 * i) (item_words x)) g.made
          ∙ ap (λ (y : BvhItem). sets (apart items before i) (7 * i) (item_words y)) e
          ∙ apart_next items before i h room;
    }

-- ---- the present ones

-- k is in the list that at begins if it is at, which is kept then, or stands behind
listed_step : (q : Bool) (at k : ℕ) (rest : List ℕ) → at ≤ k → Dec (at + 1 ≤ k) → (k ≡ at → q ≡ true) → (at + 1 ≤ k → Memᴰ k rest)
    → Memᴰ k (cond q (at ∷ rest) rest)
listed_step true at k rest low (yes h) this later = Memᴰ.tail (later h)
listed_step true at k rest low (no h) this later = let same : k ≡ at = omega arith in Memᴰ.head same
listed_step false at k rest low (yes h) this later = later h
listed_step false at k rest low (no h) this later = absurd (false≢true (this (omega arith)))

module _ (ws : List ℕ) where
  -- an item's mark says what the child's does
  mark_kept : (k : ℕ) → is_marked (child_item ws k).present ≡ is_present ws k
  unfolding child_item
  mark_kept k = by (is_present ws k) refl
    where
      by : (q : Bool) → is_present ws k ≡ q
          → is_marked
          (cond q (record { present = mark_of ws k; min = bits_of (computed_box ws k).min; max = bits_of (computed_box ws k).max }) absent).present ≡ q
      by true e = e
      by false e = refl

  present_more : (at n : ℕ) → present at (child_items ws at (suc n))
      ≡ cond (is_present ws at) (at ∷ present (at + 1) (child_items ws (at + 1) n)) (present (at + 1) (child_items ws (at + 1) n))
  present_more at n =
      ap (λ (q : Bool). cond q (at ∷ present (at + 1) (child_items ws (at + 1) n)) (present (at + 1) (child_items ws (at + 1) n))) (mark_kept at)

  -- each present child is listed
  pub present_listed : (at n k : ℕ) → at ≤ k → k < at + n → is_present ws k ≡ true → Memᴰ k (present at (child_items ws at n))
  present_listed at zero k low high there = absurd (omega arith)
  present_listed at (suc n) k low high there =
      subst (Memᴰ k) (sym (present_more at n))
      (listed_step (is_present ws at) at k (present (at + 1) (child_items ws (at + 1) n)) low (dec_le (at + 1) k)
      (λ same. ap (is_present ws) (sym same) ∙ there) (λ h. present_listed (at + 1) n k h (omega arith) there))

  -- and no other
  pub listed_present : (at n k : ℕ) → Among k (present at (child_items ws at n)) → (at ≤ k) × (k < at + n) × (is_present ws k ≡ true)
  listed_present at zero k m = absurd (omega arith)
  listed_present at (suc n) k m =
      by (is_present ws at) refl (subst (Among k) (present_more at n) m)
      (λ h. let r = listed_present (at + 1) n k h in (omega (arith, r.0), omega (arith, r.1), r.2))
    where
      by : (q : Bool) → is_present ws at ≡ q
          → Among k (cond q (at ∷ present (at + 1) (child_items ws (at + 1) n)) (present (at + 1) (child_items ws (at + 1) n)))
          → (Among k (present (at + 1) (child_items ws (at + 1) n)) → (at ≤ k) × (k < at + suc n) × (is_present ws k ≡ true))
          → (at ≤ k) × (k < at + suc n) × (is_present ws k ≡ true)
      by true e h later =
          ⊎_elim (λ same. (omega arith, omega arith, ap (is_present ws) (sym same) ∙ e)) later
          (among_cases k at (present (at + 1) (child_items ws (at + 1) n)) h)
      by false e h later = later h

-- ---- their boxes

-- The computed box is made by sums, so it is read back from its words.
computed_back : (ws : List ℕ) (k : ℕ)
    → box_values (record { min = bits_of (computed_box ws k).min; max = bits_of (computed_box ws k).max }) ≡ computed_box ws k
unfolding computed_box transform_box
computed_back ws k =
    λ i. record {
      min =
          record {
            x = of_bits-to_bits binary32 (computed_box ws k).min.x (sub-fits binary32 _ _) i;
            y = of_bits-to_bits binary32 (computed_box ws k).min.y (sub-fits binary32 _ _) i;
            z = of_bits-to_bits binary32 (computed_box ws k).min.z (sub-fits binary32 _ _) i;
          };
      max =
          record {
            x = of_bits-to_bits binary32 (computed_box ws k).max.x (add-fits binary32 _ _) i;
            y = of_bits-to_bits binary32 (computed_box ws k).max.y (add-fits binary32 _ _) i;
            z = of_bits-to_bits binary32 (computed_box ws k).max.z (add-fits binary32 _ _) i;
          };
    }

item_box_lem : (ws : List ℕ) (k : ℕ) → is_present ws k ≡ true → item_box (child_item ws k)
    ≡ record { min = bits_of (computed_box ws k).min; max = bits_of (computed_box ws k).max }
unfolding child_item
item_box_lem ws k there = rw there

-- The box of a present child in the list that the tree is built from is its computed box.
pub box_at_lem : (ws : List ℕ) (n k : ℕ) → k < n → is_present ws k ≡ true → box_values (box_in (child_items ws 0 n) k) ≡ computed_box ws k
unfolding box_in
box_at_lem ws n k h there =
    ap (λ (i : BvhItem). box_values (item_box i)) (item_at ws n k h) ∙ ap box_values (item_box_lem ws k there) ∙ computed_back ws k
