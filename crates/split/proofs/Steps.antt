-- The steps of `divide_by` lead to the rule: the partition, the groups united, and the sort where a group is empty.
use Prim.Native.Nat.{ℕ, zero, suc, ◌+◌, ◌-◌, ◌/◌, ◌≤◌, ◌<◌}
use native.Mathlib.Omega.{arith}
use mathlib.Core.Path.{◌≡◌, refl, sym, ap, subst, ◌∙◌}
use mathlib.Core.Bool.{Bool, true, false, not, cond, ◌||◌}
use mathlib.Core.List.{List, [], ◌∷◌, ◌++◌, append-nil}
use lib.Dec.{eqb}
use lib.ListN.{length, take, drop, length-append}
use lib.Seq.{length-take-le, take-append-le, take_at}
use borrow.Author.Tests.{lt-ltb, le-ltb, eqb-true, eqb-false, ne_eqb}
use Rattle.base.specs.Lists.{sift, Within}
use Rattle.base.proofs.ListLaws.{length_both}
use Rattle.base.proofs.Truth.{neither, either_second, cond_both, cond_through}
use Rattle.base.proofs.WithinLaws.{within_append}
use Rattle.math.specs.declared.vec3.Vec3.{Vec3}
use Rattle.math.specs.declared.axis.Axis.{Axis}
use Rattle.entries.specs.declared.boxes.BoxWords.{BoxWords}
use Rattle.entries.specs.Average.{average_of}
use Rattle.box_sort.specs.Sorted.{sort_boxes}
use Rattle.split.specs.declared.groups.Counts.{Counts}
use Rattle.split.specs.Rule.{above, axis_of, chosen, one, two, stuck, group_one, group_two, two_leads, first_group_of, second_of, Divided}
use Rattle.split.specs.Steps.Groups.{counts_of, axis_by, Nowhere, Leading, Parted, LeaderFirst, Same, Settled}
use Rattle.split.proofs.DivideLaws.{divide_total, divide_some_first, divide_some_second}
use Rattle.split.proofs.Parting.{led}

-- a list of which none passes
nowhere : (test : ℕ → Bool) (ps : List ℕ) → Nowhere test 0 ps → (sift test ps ≡ []) × (sift (λ p. not (test p)) ps ≡ ps)
nowhere test [] w = (refl, refl)
nowhere test (p ∷ ps) w =
    let e = w.fails 0 (omega arith) (omega arith) in
    let n = nowhere test ps (record { fails = λ k l h. w.fails (suc k) (omega arith) (omega arith) }) in
    (rw e n.0, rw e (ap (λ (l : List ℕ). p ∷ l) n.1))

-- the first 0 places stand in any list
pub none_same : (ps w : List ℕ) (r : ℕ) → Same 0 ps w r
none_same ps w r = record { stand = refl; inside = omega arith }

-- the places that lead their list stand where they stood, where group one is first
stay : (b : Bool) (test : ℕ → Bool) (ps w : List ℕ) (r seen : ℕ) → Leading test ps seen
    → w ≡ cond b (sift (λ p. not (test p)) ps ++ sift test ps) (sift test ps ++ sift (λ p. not (test p)) ps)
    → r ≡ cond b (length (sift (λ p. not (test p)) ps)) (length (sift test ps)) → Same (cond b 0 seen) ps w r
stay true test ps w r seen l e f = none_same ps w r
stay false test ps w r seen l e f =
    let g₁ : List ℕ = sift test ps in
    let g₂ : List ℕ = sift (λ p. not (test p)) ps in
    let rest : List ℕ = sift test (drop seen ps) in
    let d : take seen ps ++ rest ≡ g₁ = (led test ps seen l).0 in
    let long : length (take seen ps) ≡ seen = length-take-le seen ps l.within in
    let size : length g₁ ≡ length (take seen ps) + length rest = ap length (sym d) ∙ length-append (take seen ps) rest in
    record {
      stand = ap (take seen) e ∙ take-append-le seen g₁ g₂ (omega arith) ∙ ap (take seen) (sym d) ∙ take_at (take seen ps) rest seen long;
      inside = omega (arith, f);
    }

module _ (at : ℕ → BoxWords) where
  -- ---- two groups united

  pub united_within : (n : ℕ) (g₁ g₂ w : List ℕ) (r : ℕ) → LeaderFirst at g₁ g₂ w r → Within n g₁ → Within n g₂ → Within n w
  united_within n g₁ g₂ w r l a b =
      rw l.list (cond_both (Within n) (two_leads at g₁ g₂) (g₂ ++ g₁) (g₁ ++ g₂) (within_append n g₂ g₁ b a) (within_append n g₁ g₂ a b))

  united_length : (g₁ g₂ w : List ℕ) (r : ℕ) → LeaderFirst at g₁ g₂ w r → length w ≡ length g₁ + length g₂
  united_length g₁ g₂ w r l =
      rw l.list
      (cond_both (λ (v : List ℕ). length v ≡ length g₁ + length g₂) (two_leads at g₁ g₂) (g₂ ++ g₁) (g₁ ++ g₂)
      (omega (arith, length-append g₂ g₁)) (length-append g₁ g₂))

  -- where one is empty the other has all, and their order says nothing
  all_in_one : (g₁ g₂ w : List ℕ) (n r : ℕ) → length g₁ + length g₂ ≡ n → 2 ≤ n → LeaderFirst at g₁ g₂ w r
      → (eqb (length g₁) 0 || eqb (length g₁) n) ≡ true → (w ≡ g₁ ++ g₂) × (r ≡ n)
  unfolding two_leads
  all_in_one [] g₂ w n r e h l s =
      let b = lt-ltb 0 (length g₂) (omega arith) in
      (l.list ∙ rw (b, append-nil), l.count ∙ rw b (omega arith))
  all_in_one (x ∷ g₁) [] w n r e h l s =
      let b = le-ltb (length (x ∷ g₁)) 0 (omega arith) in
      (l.list ∙ rw b, l.count ∙ rw b (omega arith))
  all_in_one (x ∷ g₁) (y ∷ g₂) w n r e h l s =
      let some = ne_eqb (length (x ∷ g₁)) 0 (λ q. omega arith) in
      let all : length (x ∷ g₁) ≡ n = eqb-true _ _ (either_second _ _ s some) in
      absurd (omega arith)

  some_in_each : (g₁ g₂ w : List ℕ) (n r : ℕ) → length g₁ + length g₂ ≡ n → LeaderFirst at g₁ g₂ w r
      → (eqb (length g₁) 0 || eqb (length g₁) n) ≡ false → r < n
  some_in_each g₁ g₂ w n r e l s =
      let t = neither _ _ s in
      let some : length g₁ ≡ 0 → ⊥ = eqb-false _ _ t.0 in
      let not-all : length g₁ ≡ n → ⊥ = eqb-false _ _ t.1 in
      rw l.count (cond_both (λ (k : ℕ). k < n) (two_leads at g₁ g₂) (length g₂) (length g₁) (omega arith) (omega arith))

  -- by the test of the rule
  by_test : (b : Bool) (s₁ s₂ g₁ g₂ w : List ℕ) (r : ℕ) → (b ≡ true → LeaderFirst at s₁ s₂ w r) → (b ≡ false → LeaderFirst at g₁ g₂ w r)
      → LeaderFirst at (cond b s₁ g₁) (cond b s₂ g₂) w r
  by_test true s₁ s₂ g₁ g₂ w r f g = f refl
  by_test false s₁ s₂ g₁ g₂ w r f g = g refl

  both : (b : Bool) (g₁ g₂ : List ℕ) → cond b (g₂ ++ g₁) (g₁ ++ g₂) ≡ cond b g₂ g₁ ++ cond b g₁ g₂
  both true g₁ g₂ = refl
  both false g₁ g₂ = refl

  -- ---- the groups of the rule

  module _ (ps : List ℕ) where
    pub chosen_by : (avg : Vec3) (c : Counts) (a : Axis) → avg ≡ average_of at ps → c ≡ counts_of at avg ps → a ≡ axis_by (length ps) c
        → above at avg a ≡ chosen at ps
    unfolding chosen axis_of
    chosen_by avg c a e f g = rw (g, f, e)

    pub parted_united : (test : ℕ → Bool) (u v w : List ℕ) (k r : ℕ) → length u ≡ length ps → Parted test ps u v k
        → LeaderFirst at (take k u) (take (length u - k) v) w r → LeaderFirst at (sift test ps) (sift (λ p. not (test p)) ps) w r
    parted_united test u v w k r e p l =
        subst (λ (g : List ℕ). LeaderFirst at (sift test ps) g w r) (ap (λ (n : ℕ). take (n - k) v) e ∙ p.others)
        (subst (λ (g : List ℕ). LeaderFirst at g (take (length u - k) v) w r) p.passed l)

    pub parted_same : (test : ℕ → Bool) (w : List ℕ) (r seen same : ℕ) → Leading test ps seen
        → LeaderFirst at (sift test ps) (sift (λ p. not (test p)) ps) w r
        → same ≡ cond (two_leads at (sift test ps) (sift (λ p. not (test p)) ps)) 0 seen → Same same ps w r
    parted_same test w r seen same l u e =
        rw e (stay (two_leads at (sift test ps) (sift (λ p. not (test p)) ps)) test ps w r seen l u.list u.count)

    -- where none passes, all are in the second group, which leads
    pub nowhere_united : (test : ℕ → Bool) → 0 < length ps → Nowhere test 0 ps
        → LeaderFirst at (sift test ps) (sift (λ p. not (test p)) ps) ps (length ps)
    unfolding two_leads
    nowhere_united test h w =
        let n = nowhere test ps w in
        let b = lt-ltb 0 (length ps) h in
        rw (n.0, n.1) (record { list = rw (b, append-nil); count = rw b })

    leads_divided : (w : List ℕ) (r : ℕ) → 2 ≤ length ps → LeaderFirst at (group_one at ps) (group_two at ps) w r → Divided at ps w r
    unfolding first_group_of second_of
    leads_divided w r h l =
        let g₁ : List ℕ = group_one at ps in
        let g₂ : List ℕ = group_two at ps in
        let b : Bool = two_leads at g₁ g₂ in
        let count : r ≡ length (first_group_of at ps) = l.count ∙ sym (cond_through length b g₂ g₁) in
        record {
          list = l.list ∙ both b g₁ g₂;
          count = count;
          some = omega (arith, count, divide_some_first at ps h);
          rest = omega (arith, count, divide_total at ps, divide_some_second at ps h);
        }

    pub settled_divided : (w x : List ℕ) (r s : ℕ) → 2 ≤ length ps → LeaderFirst at (one at ps) (two at ps) w r → Settled at r w x s → Divided at ps x s
    unfolding group_one group_two
    settled_divided w x r s h l t =
        let n : ℕ = length ps in
        let g₁ : List ℕ = one at ps in
        let g₂ : List ℕ = two at ps in
        let total : length g₁ + length g₂ ≡ n = length_both (chosen at ps) ps in
        let long : length w ≡ n = united_length g₁ g₂ w r l ∙ total in
        let sorted : List ℕ = sort_boxes at (g₁ ++ g₂) in
        let cut : stuck at ps ≡ true → LeaderFirst at (take (n / 2) sorted) (drop (n / 2) sorted) x s =
        λ e.
        let a = all_in_one g₁ g₂ w n r total h l e in
        subst (λ (v : List ℕ). LeaderFirst at (take (n / 2) (sort_boxes at v)) (drop (n / 2) (sort_boxes at v)) x s) a.0
        (subst (λ (m : ℕ). LeaderFirst at (take (m / 2) (sort_boxes at w)) (drop (m / 2) (sort_boxes at w)) x s) long
        (t.halved (omega (arith, a.1, long)))) in
        let stands : stuck at ps ≡ false → LeaderFirst at g₁ g₂ x s =
        λ e.
        let q = t.stands (omega (arith, some_in_each g₁ g₂ w n r total l e, long)) in
        rw (q.0, q.1) l in
        leads_divided x s h (by_test (stuck at ps) (take (n / 2) sorted) (drop (n / 2) sorted) g₁ g₂ x s cut stands)

    -- what stood before the sort stands after it, where nothing is sorted
    pub settled_same : (w x : List ℕ) (k r same s : ℕ) → Same same ps w k → Settled at k w x r → (s ≤ same) × (0 < s → (s ≡ same) × (k < length w))
        → Same s ps x r
    settled_same w x k r same zero p t u = none_same ps x r
    settled_same w x k r same (suc s) p t u =
        let v = u.1 (omega arith) in
        let q = t.stands v.1 in
        record { stand = rw (v.0, q.0) p.stand; inside = omega (arith, v.0, q.1, p.inside) }
