-- Counts over the first places, and how one more place adds to them. Assumes nothing.
use Rattle.std.proofs.Common.{◌≡◌, ℕ, zero, suc, ◌+◌, ◌≤◌, Bool, true, false, cond, not, ◌&&◌, List, sym, refl, ap, ◌∙◌, subst, add-one, arith}
use Rattle.base.specs.Lists.{one_if}
use Rattle.base.proofs.ListLaws.{one_or_none}
use Rattle.math.specs.declared.aabb.Aabb.{Aabb}
use Rattle.pairs.specs.declared.judge.Met.{Met}
use Rattle.pairs.specs.Judging.{present_at, meets_at, seen_at, missed_at, stray_at, count_of, Compared}

pub and_yes : {a : Bool} (b : Bool) → a ≡ true → b ≡ a && b
and_yes b h = rw h

pub and_no : {a : Bool} (b : Bool) → a ≡ false → a ≡ a && b
and_no b h = rw h

pub chosen_first : {A : Type 0} {b : Bool} (x y : A) → b ≡ true → x ≡ cond b x y
chosen_first x y h = rw h

pub chosen_second : {A : Type 0} {b : Bool} (x y : A) → b ≡ false → y ≡ cond b x y
chosen_second x y h = rw h

pub count_most : (test : ℕ → Bool) (n : ℕ) → count_of test n ≤ n
count_most test zero = omega arith
count_most test (suc n) = omega (arith, count_most test n, one_or_none (test n))

module _ (words : List ℕ) (query : Aabb) (seen : List ℕ) where
  pub compared_at : {n k : ℕ} (m : Met) → n ≡ k → Compared words query seen n m → Compared words query seen k m
  compared_at m e h = subst (λ (k : ℕ). Compared words query seen k m) e h

  pub few_meeting : (n : ℕ) (m : Met) → Compared words query seen n m → m.meeting ≤ n
  few_meeting n m h = omega (arith, h.meeting_is, count_most (meets_at words query) n)

  pub few_missed : (n : ℕ) (m : Met) → Compared words query seen n m → m.missed ≤ n
  few_missed n m h = omega (arith, h.missed_is, count_most (missed_at words query seen) n)

  pub few_stray : (n : ℕ) (m : Met) → Compared words query seen n m → m.stray ≤ n
  few_stray n m h = omega (arith, h.stray_is, count_most (stray_at words seen) n)
