-- The invariant of `gather`: the places so far, followed by those that the entries from p on mark, are all that are marked.
use Rattle.std.specs.Prelude.{◌≡◌, ℕ, ◌+◌, ◌-◌, ◌*◌, ◌<◌, ◌≤◌, Bool, true, false, List, ◌++◌, length, get_or, take, set}
use native.Mathlib.Omega.{arith}
use native.Mathlib.Nat.{sub-zero}
use mathlib.Core.Path.{refl, sym, ap, ◌∙◌}
use mathlib.Core.List.{append-nil}
use lib.ListN.{length-set}
use Rattle.base.specs.Lists.{one_if}
use Rattle.bvh.specs.Items.{is_marked, marked}
use Rattle.bvh.specs.Steps.Gather.{Gathered}
use Rattle.bvh.proofs.MarkedLaws.{kept_if, marked_next}

pub record Gathering (n : ℕ) (ws before places : List ℕ) (k p : ℕ) : Type 0 where
  pub upto : p ≤ n
  pub most : k ≤ p
  pub same : length places ≡ length before
  pub rest : take k places ++ marked p (n - p) ws ≡ marked 0 n ws

pub one_or_none : (b : Bool) → one_if b ≤ 1
one_or_none true = omega arith
one_or_none false = omega arith

module _ (n : ℕ) (ws before : List ℕ) where
  pub begin : Gathering n ws before before 0 0
  begin = record { upto = omega arith; most = omega arith; same = refl; rest = ap (λ (m : ℕ). marked 0 m ws) (sub-zero n) }

  -- the place p is stored, and kept if it is marked
  pub next : (places : List ℕ) (k p : ℕ) → Gathering n ws before places k p → p < n → n ≤ length before
      → Gathering n ws before (set places k p) (k + one_if (is_marked (get_or ws (7 * p) 0))) (p + 1)
  next places k p g h room =
      let b = is_marked (get_or ws (7 * p) 0) in
      record {
        upto = omega arith;
        most = omega (arith, one_or_none b, g.most);
        same = length-set places k p ∙ g.same;
        rest =
            kept_if b places (marked (p + 1) (n - (p + 1)) ws) k p (omega (arith, g.most, g.same))
            ∙ ap (λ (ps : List ℕ). take k places ++ ps) (sym (marked_next ws p n h))
            ∙ g.rest;
      }

  -- none is left
  pub done : (places : List ℕ) (k p : ℕ) → Gathering n ws before places k p → n ≤ p → Gathered n ws places k
  done places k p g h =
      let none : n - p ≡ 0 = omega arith in
      record {
        places_are = sym (append-nil (take k places)) ∙ ap (λ (m : ℕ). take k places ++ marked p m ws) (sym none) ∙ g.rest;
        most = omega (arith, g.most, g.upto);
      }
