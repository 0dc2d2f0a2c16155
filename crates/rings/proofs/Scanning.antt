-- A loop over normals, by the invariant that the rest, taken into what is best so far, gives the whole result.
use Prim.Native.Nat.{ℕ, suc, ◌+◌, ◌-◌, ◌≤◌, ◌<◌}
use native.Mathlib.Omega.{arith}
use mathlib.Core.Path.{◌≡◌, refl, sym, ap, ◌∙◌}
use mathlib.Core.List.{List, [], ◌∷◌}
use lib.Ieee.{Float}
use Rattle.math.specs.declared.vec3.Vec3.{Vec3}
use Rattle.rings.specs.Steps.Stored.{normal_at, normals_from}

-- `run s ns` is the result of taking the normals ns into s
pub record Scan (run : Vec3 → List Vec3 → Vec3) (fs : List Float) (count : ℕ) (whole s : Vec3) (i : ℕ) : Type 0 where
  pub upto : i ≤ count
  pub rest : run s (normals_from fs i (count - i)) ≡ whole

pub next_normal : (fs : List Float) (i count : ℕ) → i < count → normals_from fs i (count - i) ≡ normal_at fs i ∷ normals_from fs (i + 1) (count - (i + 1))
next_normal fs i count h =
    let left : count - i ≡ suc (count - (i + 1)) = omega arith in
    ap (normals_from fs i) left

module _ (run : Vec3 → List Vec3 → Vec3) (fs : List Float) (count : ℕ) where
  pub begin : (start : Vec3) (i : ℕ) → i ≤ count → Scan run fs count (run start (normals_from fs i (count - i))) start i
  begin start i h = record { upto = h; rest = refl }

  -- the normal at i was taken
  pub taken : (whole s t : Vec3) (i : ℕ) → Scan run fs count whole s i → i < count
      → run t (normals_from fs (i + 1) (count - (i + 1))) ≡ run s (normal_at fs i ∷ normals_from fs (i + 1) (count - (i + 1)))
      → Scan run fs count whole t (i + 1)
  taken whole s t i q h e = record { upto = omega arith; rest = e ∙ ap (run s) (sym (next_normal fs i count h)) ∙ q.rest }

  -- none is left
  pub finished : (whole s : Vec3) (i : ℕ) → Scan run fs count whole s i → count ≤ i → run s [] ≡ whole
  finished whole s i q h =
      let none : count - i ≡ 0 = omega arith in
      sym (ap (λ (k : ℕ). run s (normals_from fs i k)) none) ∙ q.rest
