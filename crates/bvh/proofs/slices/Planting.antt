-- Between gathering and growing: what is gathered gives the builder its room, and what grows from it is the tree of the marked places.
use Rattle.std.specs.Prelude.{◌≡◌, ℕ, ◌≤◌, List, ◌++◌, length, take, drop}
use native.Mathlib.Nat.{zero-add}
use native.Mathlib.Omega.{arith}
use mathlib.Core.Path.{sym, ap, ◌∙◌, subst}
use lib.Ieee.{Float}
use lib.Seq.{length-take-le, take_at}
use Rattle.base.proofs.NumberLaws.{below_wider}
use Rattle.base.proofs.WithinLaws.{below_within}
use Rattle.base.specs.Lists.{Below}
use Rattle.entries.specs.Boxes.{box_at}
use Rattle.bvh.specs.declared.slices.Task.{Task}
use Rattle.bvh.specs.Entry.{lent}
use Rattle.bvh.specs.Items.{marked}
use Rattle.growth.specs.Grow.{builder}
use Rattle.bvh.specs.Steps.Core.{WorkRoom, TreePlanted}
use Rattle.bvh.specs.Steps.Gather.{Gathered}
use Rattle.growth.specs.Steps.Laid.{Room, Grown}
use Rattle.bvh.proofs.MarkedLaws.{marked_below}

-- the marked places are below the number of entries
pub marks_below : (n : ℕ) (ws : List ℕ) → Below n (marked 0 n ws)
marks_below n ws = subst (λ (k : ℕ). Below k (marked 0 n ws)) (zero-add n) (marked_below 0 n ws)

-- and so are the gathered ones
pub gathered_below : (n k bound : ℕ) (ws places : List ℕ) → Gathered n ws places k → n ≤ bound → Below bound (take k places)
gathered_below n k bound ws places g h =
    subst (Below bound) (sym g.places_are) (below_wider n bound (marked 0 n ws) h (marks_below n ws))

module _ (n k : ℕ) (entries places : List ℕ) (g : Gathered n entries places k) (fits : n ≤ length places) where
  pub gathered_long : length (take k places) ≡ k
  gathered_long = length-take-le k places (omega (arith, g.most))

module _ (t : Task) (k : ℕ) (entries places : List ℕ) (g : Gathered t.n entries places k) (fits : t.n ≤ length places) where
  pub grow_room : (before temp stack table : List ℕ) (centres : List Float) → WorkRoom t (lent entries before temp stack table centres)
      → Room t.threshold (take k places) temp entries stack table
  grow_room before temp stack table centres w =
      let long = gathered_long t.n k entries places g fits in
      let most = g.most in
      record {
        few = omega (arith, w.few);
        temp_room = omega (arith, w.temp_room);
        stack_room = omega (arith, w.stack_room);
        rows_room = omega (arith, w.rows_room);
        threshold = w.threshold;
        within =
            below_within t.n (length entries) (take k places) (omega (arith, w.entries_are))
            (gathered_below t.n k t.n entries places g (omega arith));
      }

  pub planted : (order table : List ℕ) (m : ℕ) → length order ≡ length (take k places)
      → Grown (builder (box_at entries)) t.threshold (take k places) order table m
      → TreePlanted t entries (order ++ drop k places) table (record { present = k; nodes = m })
  planted order table m same grown =
      let b = builder (box_at entries) in
      let long : length (take k places) ≡ k = gathered_long t.n k entries places g fits in
      record {
        grown =
            subst (λ (qs : List ℕ). Grown b t.threshold (marked 0 t.n entries) qs table m)
            (sym (take_at order (drop k places) k (same ∙ long)))
            (subst (λ (ps : List ℕ). Grown b t.threshold ps order table m) g.places_are grown);
        present_is = sym long ∙ ap length g.places_are;
        most = g.most;
      }
