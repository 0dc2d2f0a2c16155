-- The centres that are kept: what four stores leave, and, by the invariant that the entries passed have their lanes, one entry more.
use Prim.Native.Nat.{ℕ, ◌+◌, ◌*◌, ◌≤◌, ◌<◌}
use native.Mathlib.Decide.{dec_lt}
use native.Mathlib.Numerals.{towards_suc}
use native.Mathlib.Omega.{arith}
use mathlib.Core.List.{List, [], ◌∷◌}
use mathlib.Core.Path.{◌≡◌, subst, ap, ◌∙◌}
use lib.ListN.{length, get_or, set, length-set}
use lib.Seq.{sets, get_or-set_same, get_or-set_other}
use lib.Ieee.{Float, neg, nan}
use Rattle.math.specs.declared.vec3.Vec3.{Vec3}
use Rattle.entries.specs.Average.{centre_of}
use Rattle.entries.specs.Boxes.{box_at}
use Rattle.entries.specs.Kept.{lanes_at, lanes_of, Kept}

-- the lanes of entry i are stored
abbrev pub stored : List Float → ℕ → Vec3 → List Float
stored cs i c = set (set (set (set cs (4 * i) c.x) (4 * i + 1) c.y) (4 * i + 2) c.z) (4 * i + 3) (neg c.x)

module _ (cs : List Float) (i : ℕ) (c : Vec3) where
  abbrev one : List Float
  one = set cs (4 * i) c.x

  abbrev two : List Float
  two = set one (4 * i + 1) c.y

  abbrev three : List Float
  three = set two (4 * i + 2) c.z

  pub in_a_row : stored cs i c ≡ sets cs (4 * i) (c.x ∷ c.y ∷ c.z ∷ neg c.x ∷ [])
  in_a_row = simp towards_suc

  stored_long : length (stored cs i c) ≡ length cs
  stored_long = simp length-set

  other : (j : ℕ) → j < 4 * i → get_or (stored cs i c) j nan ≡ get_or cs j nan
  other j h =
      get_or-set_other three (4 * i + 3) j (neg c.x) nan (λ q. omega arith)
      ∙ get_or-set_other two (4 * i + 2) j c.z nan (λ q. omega arith)
      ∙ get_or-set_other one (4 * i + 1) j c.y nan (λ q. omega arith)
      ∙ get_or-set_other cs (4 * i) j c.x nan (λ q. omega arith)

  others : (p : ℕ) → p < i → lanes_at (stored cs i c) p ≡ lanes_at cs p
  others p h =
      let x = other (4 * p) (omega arith) in
      let y = other (4 * p + 1) (omega arith) in
      let z = other (4 * p + 2) (omega arith) in
      let w = other (4 * p + 3) (omega arith) in
      λ k. record { x = x k; y = y k; z = z k; w = w k }

  stored_at : 4 * i + 4 ≤ length cs → lanes_at (stored cs i c) i ≡ lanes_of c
  stored_at h =
      let x : get_or (stored cs i c) (4 * i) nan ≡ c.x =
      get_or-set_other three (4 * i + 3) (4 * i) (neg c.x) nan (λ q. omega arith)
      ∙ get_or-set_other two (4 * i + 2) (4 * i) c.z nan (λ q. omega arith)
      ∙ get_or-set_other one (4 * i + 1) (4 * i) c.y nan (λ q. omega arith)
      ∙ get_or-set_same cs (4 * i) c.x nan (omega arith) in
      let y : get_or (stored cs i c) (4 * i + 1) nan ≡ c.y =
      get_or-set_other three (4 * i + 3) (4 * i + 1) (neg c.x) nan (λ q. omega arith)
      ∙ get_or-set_other two (4 * i + 2) (4 * i + 1) c.z nan (λ q. omega arith)
      ∙ get_or-set_same one (4 * i + 1) c.y nan (simp length-set (omega arith)) in
      let z : get_or (stored cs i c) (4 * i + 2) nan ≡ c.z =
      get_or-set_other three (4 * i + 3) (4 * i + 2) (neg c.x) nan (λ q. omega arith)
      ∙ get_or-set_same two (4 * i + 2) c.z nan (simp length-set (omega arith)) in
      let w : get_or (stored cs i c) (4 * i + 3) nan ≡ neg c.x =
      get_or-set_same three (4 * i + 3) (neg c.x) nan (simp length-set (omega arith)) in
      λ k. record { x = x k; y = y k; z = z k; w = w k }

-- The centres of the first i entries are stored.
pub record Storing (ws : List ℕ) (before cs : List Float) (i : ℕ) : Type 0 where
  pub upto : 7 * i ≤ length ws
  pub same : length cs ≡ length before
  pub done : (p : ℕ) → p < i → lanes_at cs p ≡ lanes_of (centre_of (box_at ws p))

module _ (ws : List ℕ) (before cs : List Float) (i : ℕ) (s : Storing ws before cs i) (room : 4 * length ws ≤ 7 * length before) where
  pub one_more : (c : Vec3) → 7 * i + 7 ≤ length ws → c ≡ centre_of (box_at ws i) → Storing ws before (stored cs i c) (i + 1)
  one_more c h e = record { upto = omega arith; same = stored_long cs i c ∙ s.same; done = λ p l. go p (dec_lt p i) l }
    where
      go : (p : ℕ) → Dec (p < i) → p < i + 1 → lanes_at (stored cs i c) p ≡ lanes_of (centre_of (box_at ws p))
      go p (yes k) l = others cs i c p k ∙ s.done p k
      go p (no k) l =
          let q : i ≡ p = omega arith in
          subst (λ (n : ℕ). lanes_at (stored cs i c) n ≡ lanes_of (centre_of (box_at ws n))) q
          (stored_at cs i c (omega (arith, s.same)) ∙ ap lanes_of e)

  pub all_stored : length ws < 7 * i + 7 → Kept ws cs
  all_stored h = record { room = omega (arith, s.same); lanes = λ p l. s.done p (omega arith) }
