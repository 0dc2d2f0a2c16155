-- Rule S5 by the number of normals: one, two, or more; and the best point, carried with its way.
use Prim.Native.Nat.{ℕ, suc, ◌+◌, ◌-◌, ◌≤◌, ◌<◌}
use native.Mathlib.Omega.{arith}
use mathlib.Core.Bool.{Bool, true, false, cond}
use mathlib.Core.Path.{◌≡◌, sym, ap, ap₂, ◌∙◌}
use mathlib.Core.List.{List, ◌∷◌}
use lib.Ieee.{Float, lt}
use Rattle.math.specs.Vec3s.{norm_of}
use Rattle.math.specs.declared.vec3.Vec3.{Vec3}
use Rattle.rings.specs.declared.moving.Push.{Push}
use Rattle.rings.specs.declared.moving.Reach.{Reach}
use Rattle.rings.specs.Moving.{along_of, way_of, farther_of, between_of, each_first, sum_from, moved_of}
use Rattle.rings.specs.Steps.Stored.{normal_at, normals_from, reach_of}
use Rattle.rings.proofs.Scanning.{Scan, taken}

module _ (fs : List Float) (m : Push) (count : ℕ) where
  pub one_normal : count ≡ 1 → along_of m (normal_at fs 0) ≡ moved_of m (normal_at fs 0) (normals_from fs 1 (count - 1))
  unfolding moved_of
  one_normal e = sym (ap (λ (k : ℕ). moved_of m (normal_at fs 0) (normals_from fs 1 (k - 1))) e)

  pub two_normals : count ≡ 2 → between_of m (normal_at fs 0) (normal_at fs 1) (along_of m (norm_of (sum_from (normal_at fs 0) (normals_from fs 1 (count - 1)))))
      ≡ moved_of m (normal_at fs 0) (normals_from fs 1 (count - 1))
  unfolding moved_of
  two_normals e =
      ap (λ (k : ℕ). between_of m (normal_at fs 0) (normal_at fs 1) (along_of m (norm_of (sum_from (normal_at fs 0) (normals_from fs 1 (k - 1)))))) e
      ∙ sym (ap (λ (k : ℕ). moved_of m (normal_at fs 0) (normals_from fs 1 (k - 1))) e)

  pub more_normals : 3 ≤ count → each_first m (along_of m (norm_of (sum_from (normal_at fs 0) (normals_from fs 1 (count - 1))))) (normals_from fs 0 count)
      ≡ moved_of m (normal_at fs 0) (normals_from fs 1 (count - 1))
  unfolding moved_of
  more_normals h =
      let all : count ≡ suc (suc (suc (count - 3))) = omega arith in
      let rest : count - 1 ≡ suc (suc (count - 3)) = omega arith in
      ap (λ (k : ℕ). each_first m (along_of m (norm_of (sum_from (normal_at fs 0) (normals_from fs 1 (count - 1))))) (normals_from fs 0 k)) all
      ∙ ap (λ (k : ℕ). each_first m (along_of m (norm_of (sum_from (normal_at fs 0) (normals_from fs 1 k))))
      (normal_at fs 0 ∷ normals_from fs 1 (suc (suc (count - 3))))) rest
      ∙ sym (ap (λ (k : ℕ). moved_of m (normal_at fs 0) (normals_from fs 1 k)) rest)

-- a point that is carried with its way is carried so again
pub carried : (m : Push) (r : Reach) (x : Vec3) → r ≡ reach_of m x → r ≡ reach_of m r.point
carried m r x e = e ∙ sym (ap (λ (s : Reach). reach_of m s.point) e)

-- Rule S5: the farther of two, by the ways that are carried
module _ (m : Push) (best new : Reach) (x : Vec3) (b : best ≡ reach_of m best.point) (n : new ≡ reach_of m x) where
  ways : lt best.way new.way ≡ lt (way_of m best.point) (way_of m x)
  ways = ap₂ (λ (p q : Reach). lt p.way q.way) b n

  pub farther_is : lt best.way new.way ≡ true → new ≡ reach_of m (farther_of m best.point x)
  farther_is t = n ∙ ap (λ (c : Bool). reach_of m (cond c x best.point)) (sym t ∙ ways)

  pub farther_not : lt best.way new.way ≡ false → best ≡ reach_of m (farther_of m best.point x)
  farther_not t = b ∙ ap (λ (c : Bool). reach_of m (cond c x best.point)) (sym t ∙ ways)

-- a loop over normals whose best point is carried with its way
pub record Carried (m : Push) (run : Vec3 → List Vec3 → Vec3) (fs : List Float) (count : ℕ) (whole : Vec3) (best : Reach) (i : ℕ) : Type 0 where
  pub scan : Scan run fs count whole best.point i
  pub with_way : best ≡ reach_of m best.point

module _ (m : Push) (run : Vec3 → List Vec3 → Vec3) (fs : List Float) (count : ℕ) (whole : Vec3) (best : Reach) (i : ℕ) where
  pub carry : Carried m run fs count whole best i → i < count → (t : Reach) (x : Vec3) → t ≡ reach_of m x
      → run x (normals_from fs (i + 1) (count - (i + 1))) ≡ run best.point (normal_at fs i ∷ normals_from fs (i + 1) (count - (i + 1)))
      → Carried m run fs count whole t (i + 1)
  carry q h t x e same =
      let rest = normals_from fs (i + 1) (count - (i + 1)) in
      record {
        scan = taken run fs count whole best.point t.point i q.scan h (ap (λ (s : Reach). run s.point rest) e ∙ same);
        with_way = carried m t x e;
      }
