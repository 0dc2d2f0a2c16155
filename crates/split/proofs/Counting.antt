-- Counting the centres below the average: one place more, and a count is at most the number of places.
use Prim.Native.Nat.{ℕ, ◌+◌, ◌≤◌}
use native.Mathlib.Omega.{arith}
use mathlib.Core.Path.{◌≡◌, refl, ap}
use mathlib.Core.List.{List, [], ◌∷◌}
use lib.ListN.{length}
use Rattle.base.specs.Lists.{one_if, sift}
use Rattle.base.proofs.ListLaws.{length_kept, length_sift}
use Rattle.math.specs.declared.vec3.Vec3.{Vec3}
use Rattle.math.specs.declared.axis.Axis.{Axis}
use Rattle.math.specs.declared.axis.Axis.TheVariants.{X, Y, Z}
use Rattle.entries.specs.declared.boxes.BoxWords.{BoxWords}
use Rattle.split.specs.declared.groups.Counts.{Counts}
use Rattle.split.specs.Rule.{above, below, count_below}
use Rattle.split.specs.Steps.Groups.{count_above, counts_of, count_more}
use Rattle.entries.proofs.Places.{Pass}

module _ (at : ℕ → BoxWords) (avg : Vec3) where
  count_more_lem : (a : Axis) (p : ℕ) (ps : List ℕ) → count_below at avg a (p ∷ ps) ≡ one_if (below at avg a p) + count_below at avg a ps
  unfolding count_below
  count_more_lem a p ps = length_kept (below at avg a p) p (sift (below at avg a) ps)

  count_none : (a : Axis) → count_below at avg a [] ≡ 0
  unfolding count_below
  count_none a = refl

  pub count_le : (a : Axis) (ps : List ℕ) → count_below at avg a ps ≤ length ps
  unfolding count_below
  count_le a ps = length_sift (below at avg a) ps

  -- the counts c, with those of ps added
  pub onto : Counts → List ℕ → Counts
  onto c ps =
      record {
        x = c.x + count_below at avg X ps;
        y = c.y + count_below at avg Y ps;
        z = c.z + count_below at avg Z ps;
        over = c.over + count_above at avg ps;
      }

  onto_at : (a : Axis) (n p : ℕ) (ps : List ℕ) → n + one_if (below at avg a p) + count_below at avg a ps ≡ n + count_below at avg a (p ∷ ps)
  onto_at a n p ps = omega (arith, count_more_lem a p ps)

  more_above : (n p : ℕ) (ps : List ℕ) → n + one_if (above at avg X p) + count_above at avg ps ≡ n + count_above at avg (p ∷ ps)
  more_above n p ps = omega (arith, length_kept (above at avg X p) p (sift (above at avg X) ps))

  pub onto_more : (c : Counts) (p : ℕ) (ps : List ℕ) → onto (count_more at avg c p) ps ≡ onto c (p ∷ ps)
  unfolding onto
  onto_more c p ps = λ i. record { x = onto_at X c.x p ps i; y = onto_at Y c.y p ps i; z = onto_at Z c.z p ps i; over = more_above c.over p ps i }

  onto_nothing : (a : Axis) (n : ℕ) → n ≡ n + count_below at avg a []
  onto_nothing a n = omega (arith, count_none a)

  none_above : (n : ℕ) → n ≡ n + count_above at avg []
  none_above n = omega arith

  pub onto_none : (c : Counts) → c ≡ onto c []
  unfolding onto
  onto_none c = λ i. record { x = onto_nothing X c.x i; y = onto_nothing Y c.y i; z = onto_nothing Z c.z i; over = none_above c.over i }

  nothing_onto : (a : Axis) (ps : List ℕ) → 0 + count_below at avg a ps ≡ count_below at avg a ps
  nothing_onto a ps = omega arith

  abbrev pub none : Counts
  none = record { x = 0; y = 0; z = 0; over = 0 }

  above_onto : (ps : List ℕ) → 0 + count_above at avg ps ≡ count_above at avg ps
  above_onto ps = omega arith

  pub above_le : (ps : List ℕ) → count_above at avg ps ≤ length ps
  above_le ps = length_sift (above at avg X) ps

  pub none_onto : (ps : List ℕ) → onto none ps ≡ counts_of at avg ps
  unfolding onto
  none_onto ps = λ i. record { x = nothing_onto X ps i; y = nothing_onto Y ps i; z = nothing_onto Z ps i; over = above_onto ps i }

  -- so far at most as many as there are places
  pub small : (n : ℕ) (ps : List ℕ) (c : Counts) (i : ℕ) → Pass onto n ps none c i
      → (c.x ≤ length ps) × (c.y ≤ length ps) × (c.z ≤ length ps) × (c.over ≤ length ps)
  unfolding onto
  small n ps c i q =
      let e = q.rest in (
        omega (arith, ap (λ (r : Counts). r.x) e, count_le X ps),
        omega (arith, ap (λ (r : Counts). r.y) e, count_le Y ps),
        omega (arith, ap (λ (r : Counts). r.z) e, count_le Z ps),
        omega (arith, ap (λ (r : Counts). r.over) e, above_le ps),
      )
