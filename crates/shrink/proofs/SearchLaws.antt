-- Rule S7, one turn: the margin is no longer above 1e-6, it passes, or the rest of the turns go on with its half.
use mathlib.Core.Bool.{Bool, true, false, cond}
use Prim.Native.Nat.{ℕ, zero, suc, ◌-◌, ◌<◌}
use native.Mathlib.Omega.{arith}
use mathlib.Core.Path.{◌≡◌, refl, sym, ap, ap₂, ◌∙◌}
use mathlib.Core.List.{List}
use lib.Ieee.{Float, lt}
use Rattle.std.specs.Prelude.{Some, None}
use Rattle.math.specs.Vec3s.{◌⊗◌, tolerance}
use Rattle.math.specs.Transform.{half}
use Rattle.rings.specs.Meshes.{Mesh, by_margin}
use Rattle.shrink.specs.Margins.{passing}
use Rattle.shrink.specs.Searching.{margin_of}
use Rattle.shrink.specs.Steps.Work.{Found}

module _ (test : Float → Bool) (m : Float) where
  pub too_small : (left : ℕ) → lt tolerance m ≡ false → None ≡ passing test left m
  too_small zero e = refl
  too_small (suc left) e = ap (λ (b : Bool). cond b (cond (test m) (Some m) (passing test left (m ⊗ half))) None) (sym e)

  pub found : (left : ℕ) → 0 < left → lt tolerance m ≡ true → test m ≡ true → Some m ≡ passing test left m
  found zero h e t = absurd (omega arith)
  found (suc left) h e t = ap₂ (λ (b c : Bool). cond b (cond c (Some m) (passing test left (m ⊗ half))) None) (sym e) (sym t)

  pub halves : (left : ℕ) → 0 < left → lt tolerance m ≡ true → test m ≡ false → passing test (left - 1) (m ⊗ half) ≡ passing test left m
  halves zero h e t = absurd (omega arith)
  halves (suc left) h e t =
      let less : suc left - 1 ≡ left = omega arith in
      ap (λ (k : ℕ). passing test k (m ⊗ half)) less
      ∙ ap₂ (λ (b c : Bool). cond b (cond c (Some m) (passing test left (m ⊗ half))) None) (sym e) (sym t)

-- ---- the answer, and the points that it is for

module _ {mesh : Mesh} {start : Float} (points : List ℕ) where
  pub none_found : None ≡ margin_of mesh start → Found mesh start points None
  none_found e =
      record {
        answer = e;
        points_are =
            λ m p.
            let z : ◌≡◌ {A = ℕ} 0 1 = cc in
            absurd (omega arith);
      }

  pub one_found : (m : Float) → points ≡ by_margin mesh m → Some m ≡ margin_of mesh start → Found mesh start points (Some m)
  one_found m w e =
      record {
        answer = e;
        points_are =
            λ m' p.
            let same : m ≡ m' = cc in
            w ∙ ap (by_margin mesh) same;
      }
