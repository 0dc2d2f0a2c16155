-- The rule of splitting, for any boxes: the two groups have the list's places, each as often, and neither is empty where the list has two or more.
use Prim.Native.Nat.{ℕ, ◌+◌, ◌-◌, ◌/◌, ◌≤◌, ◌<◌}
use native.Mathlib.Omega.{arith}
use mathlib.Core.Path.{◌≡◌, refl, ap, ◌∙◌}
use mathlib.Core.Bool.{Bool, true, false, not, cond, ◌||◌}
use mathlib.Core.List.{List, ◌++◌}
use lib.Dec.{eqb}
use lib.ListN.{length, take, drop, length-append, length-drop, take-append-drop}
use lib.Seq.{length-take-le}
use borrow.Author.Tests.{eqb-false}
use Rattle.base.specs.Lists.{sift, Inside, Within, occurrences, Permutes}
use Rattle.base.proofs.ListLaws.{length_both, parted_permutes, permutes_swap}
use Rattle.base.proofs.SortLaws.{sort_length, sort_every, sort_permutes}
use Rattle.base.proofs.WithinLaws.{within_sift, within_append, within_take, within_drop}
use Rattle.entries.specs.declared.boxes.BoxWords.{BoxWords}
use Rattle.split.specs.Rule.{chosen, group_one, group_two, two_leads, first_group_of, second_of}
use Rattle.box_sort.specs.Sorted.{at_most, sort_boxes}

-- two groups that the places of a list are split into
pub record Split (ps one two : List ℕ) : Type 0 where
  pub total : length one + length two ≡ length ps
  pub some_one : 2 ≤ length ps → 0 < length one
  pub some_two : 2 ≤ length ps → 0 < length two
  pub within_one : (n : ℕ) → Within n ps → Within n one
  pub within_two : (n : ℕ) → Within n ps → Within n two
  pub same : Permutes (one ++ two) ps

-- cut in the middle, whatever the order
halved : (ps qs : List ℕ) → length qs ≡ length ps → ((n : ℕ) → Within n ps → Within n qs) → Permutes qs ps
    → Split ps (take (length ps / 2) qs) (drop (length ps / 2) qs)
halved ps qs e w s =
    let h : ℕ = length ps / 2 in
    let l : length (take h qs) ≡ h = length-take-le h qs (omega arith) in
    let d : length (drop h qs) ≡ length qs - h = length-drop h qs in
    record {
      total = omega arith;
      some_one = λ m. omega arith;
      some_two = λ m. omega arith;
      within_one = λ n v. within_take n h qs (w n v);
      within_two = λ n v. within_drop n h qs (w n v);
      same = λ p. ap (occurrences p) (take-append-drop h qs) ∙ s p;
    }

module _ (at : ℕ → BoxWords) where
  -- one followed by two, sorted and cut
  sorted : (test : ℕ → Bool) (ps : List ℕ)
      → Split ps
      (take (length ps / 2) (sort_boxes at (sift test ps ++ sift (λ p. not (test p)) ps)))
      (drop (length ps / 2) (sort_boxes at (sift test ps ++ sift (λ p. not (test p)) ps)))
  sorted test ps =
      let one : List ℕ = sift test ps in
      let two : List ℕ = sift (λ p. not (test p)) ps in
      halved ps (sort_boxes at (one ++ two))
      (sort_length (at_most at) (one ++ two) ∙ length-append one two ∙ length_both test ps)
      (λ n w. sort_every (at_most at) (Inside n) (one ++ two) (within_append n one two (within_sift n test ps w) (within_sift n (λ p. not (test p)) ps w)))
      (λ p. sort_permutes (at_most at) (one ++ two) p ∙ parted_permutes test ps p)

  -- by the two tests of `stuck`
  grouped : (test : ℕ → Bool) (ps : List ℕ) (b₁ b₂ : Bool) → eqb (length (sift test ps)) 0 ≡ b₁ → eqb (length (sift test ps)) (length ps) ≡ b₂
      → Split ps
      (cond (b₁ || b₂) (take (length ps / 2) (sort_boxes at (sift test ps ++ sift (λ p. not (test p)) ps))) (sift test ps))
      (cond (b₁ || b₂) (drop (length ps / 2) (sort_boxes at (sift test ps ++ sift (λ p. not (test p)) ps))) (sift (λ p. not (test p)) ps))
  grouped test ps true b₂ e₁ e₂ = sorted test ps
  grouped test ps false true e₁ e₂ = sorted test ps
  grouped test ps false false e₁ e₂ =
      let one : List ℕ = sift test ps in
      let two : List ℕ = sift (λ p. not (test p)) ps in
      let l = length_both test ps in
      let n₁ : length one ≡ 0 → ⊥ = eqb-false _ _ e₁ in
      let n₂ : length one ≡ length ps → ⊥ = eqb-false _ _ e₂ in
      record {
        total = l;
        some_one = λ m. omega arith;
        some_two = λ m. omega arith;
        within_one = λ n. within_sift n test ps;
        within_two = λ n. within_sift n (λ p. not (test p)) ps;
        same = parted_permutes test ps;
      }

  pub groups_split : (ps : List ℕ) → Split ps (group_one at ps) (group_two at ps)
  unfolding group_one group_two
  groups_split ps = grouped (chosen at ps) ps _ _ refl refl

  ordered : (ps g₁ g₂ : List ℕ) (b : Bool) → Split ps g₁ g₂ → Split ps (cond b g₂ g₁) (cond b g₁ g₂)
  ordered ps g₁ g₂ true s =
      record {
        total = omega (arith, s.total);
        some_one = s.some_two;
        some_two = s.some_one;
        within_one = s.within_two;
        within_two = s.within_one;
        same = λ p. permutes_swap g₁ g₂ p ∙ s.same p;
      }
  ordered ps g₁ g₂ false s = s

  -- the groups as a node gets them
  pub rule_split : (ps : List ℕ) → Split ps (first_group_of at ps) (second_of at ps)
  unfolding first_group_of second_of
  rule_split ps = ordered ps (group_one at ps) (group_two at ps) (two_leads at (group_one at ps) (group_two at ps)) (groups_split ps)

  pub divide_total : (ps : List ℕ) → length (first_group_of at ps) + length (second_of at ps) ≡ length ps
  divide_total ps = (rule_split ps).total

  pub divide_some_first : (ps : List ℕ) → 2 ≤ length ps → 0 < length (first_group_of at ps)
  divide_some_first ps = (rule_split ps).some_one

  pub divide_some_second : (ps : List ℕ) → 2 ≤ length ps → 0 < length (second_of at ps)
  divide_some_second ps = (rule_split ps).some_two

  pub divide_within_first : (n : ℕ) (ps : List ℕ) → Within n ps → Within n (first_group_of at ps)
  divide_within_first n ps = (rule_split ps).within_one n

  pub divide_within_second : (n : ℕ) (ps : List ℕ) → Within n ps → Within n (second_of at ps)
  divide_within_second n ps = (rule_split ps).within_two n

  pub divide_permutes : (ps : List ℕ) → Permutes (first_group_of at ps ++ second_of at ps) ps
  divide_permutes ps = (rule_split ps).same
