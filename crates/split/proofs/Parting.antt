-- The loop of `partition`, by the invariant that what is stored so far, followed by what the rest gives, is the whole of each group.
use Prim.Native.Nat.{ℕ, zero, suc, ◌+◌, ◌-◌, ◌*◌, ◌≤◌, ◌<◌}
use native.Mathlib.Omega.{arith}
use native.Mathlib.Numerals.{add-one}
use native.Mathlib.Nat.{add-zero, le_refl}
use mathlib.Core.Path.{◌≡◌, refl, sym, ap, ◌∙◌, fun_ext}
use mathlib.Core.Bool.{Bool, true, false, not}
use mathlib.Core.List.{List, [], ◌∷◌, ◌++◌, append_assoc, append-nil}
use lib.ListN.{length, get_or, set, take, drop, length-set, drop_of_length-le}
use lib.Seq.{take-suc-set, take-set-le, drop-set-lt, length-take-le}
use lib.Ieee.{Float, lt}
use Rattle.base.specs.Lists.{one_if, sift}
use Rattle.base.proofs.StoreLaws.{rest_one}
use Rattle.math.specs.declared.vec3.Vec3.{Vec3}
use Rattle.math.specs.declared.axis.Axis.{Axis}
use Rattle.math.specs.declared.axis.Axis.TheVariants.{X, Y, Z}
use Rattle.math.specs.Axes.{coordinate}
use Rattle.entries.specs.Average.{centre_of}
use Rattle.entries.specs.Boxes.{box_at}
use Rattle.split.specs.Rule.{above}
use Rattle.split.specs.Steps.Groups.{step_of, centre_at, passes, Leading, Parted}

-- the two words of an axis are those that stand `step` after x's
pub centre_along : (ws : List ℕ) (p : ℕ) (a : Axis) → centre_at ws (step_of a) p ≡ coordinate a (centre_of (box_at ws p))
centre_along ws p X = let z : 7 * p + 1 + 0 ≡ 7 * p + 1 = omega arith in rw z
centre_along ws p Y = let z : 7 * p + 1 + 1 + 3 ≡ 7 * p + 1 + 3 + 1 = omega arith in rw z
centre_along ws p Z = let z : 7 * p + 1 + 2 + 3 ≡ 7 * p + 1 + 3 + 2 = omega arith in rw z

pub step_small : (a : Axis) → step_of a < 3
step_small X = omega arith
step_small Y = omega arith
step_small Z = omega arith

pub passes_above : (ws : List ℕ) (avg : Vec3) (a : Axis) (step : ℕ) (cut : Float) → step ≡ step_of a → cut ≡ coordinate a avg
    → passes ws step cut ≡ above (box_at ws) avg a
unfolding passes above
passes_above ws avg a step cut e f = rw (e, f) (fun_ext (λ p. ap (lt (coordinate a avg)) (centre_along ws p a)))

-- stored at k, and k moved on only where the test holds
stored : (test : ℕ → Bool) (b : Bool) (l ys : List ℕ) (k x : ℕ) → k < length l → test x ≡ b
    → take (k + one_if b) (set l k x) ++ sift test ys ≡ take k l ++ sift test (x ∷ ys)
stored test true l ys k x h e =
    let t : take (k + 1) (set l k x) ≡ take k l ++ (x ∷ []) = rw add-one (take-suc-set l k x h) in
    rw (t, e, append_assoc)
stored test false l ys k x h e =
    let t : take (k + 0) (set l k x) ≡ take k l = rw add-zero (take-set-le k l k x (le_refl k)) in
    rw (t, e)

moved : (b : Bool) (k i : ℕ) → k ≤ i → i + 1 - (k + one_if b) ≡ i - k + one_if (not b)
moved true k i h = omega arith
moved false k i h = omega arith

at_most_one : (b : Bool) (k i : ℕ) → k ≤ i → k + one_if b ≤ i + 1
at_most_one true k i h = omega arith
at_most_one false k i h = omega arith

pub record Parting (test : ℕ → Bool) (a₀ t₀ a t : List ℕ) (k i : ℕ) : Type 0 where
  pub upto : i ≤ length a₀
  pub low : k ≤ i
  pub len_places : length a ≡ length a₀
  pub len_temp : length t ≡ length t₀
  pub left : drop i a ≡ drop i a₀
  pub front : take k a ++ sift test (drop i a₀) ≡ sift test a₀
  pub back : take (i - k) t ++ sift (λ p. not (test p)) (drop i a₀) ≡ sift (λ p. not (test p)) a₀

-- what passes at the front is where it belongs, and none of it is among the others
pub led : (test : ℕ → Bool) (ps : List ℕ) (r : ℕ) → Leading test ps r
    → (take r ps ++ sift test (drop r ps) ≡ sift test ps) × (sift (λ p. not (test p)) (drop r ps) ≡ sift (λ p. not (test p)) ps)
led test ps zero w = (refl, refl)
led test [] (suc r) w = absurd (omega (arith, w.within))
led test (p ∷ ps) (suc r) w =
    let e = w.pass 0 (omega arith) in
    let n = led test ps r (record { within = omega (arith, w.within); pass = λ k h. w.pass (suc k) (omega arith) }) in
    (rw e (ap (λ (l : List ℕ). p ∷ l) n.0), rw e n.1)

module _ (test : ℕ → Bool) (a₀ t₀ : List ℕ) where
  pub begin : (r : ℕ) → Leading test a₀ r → Parting test a₀ t₀ a₀ t₀ r r
  begin r w =
      let none : r - r ≡ 0 = omega arith in
      record {
        upto = w.within;
        low = omega arith;
        len_places = refl;
        len_temp = refl;
        left = refl;
        front = (led test a₀ r w).0;
        back = rw none (led test a₀ r w).1;
      }

  -- the next place is still where it was
  next : (a : List ℕ) (i : ℕ) → drop i a ≡ drop i a₀ → i < length a → i < length a₀
      → (drop i a₀ ≡ get_or a i 0 ∷ drop (i + 1) a₀) × (drop (i + 1) a ≡ drop (i + 1) a₀)
  next a i e h h₀ =
      let p : get_or a i 0 ∷ drop (i + 1) a ≡ get_or a₀ i 0 ∷ drop (i + 1) a₀ = sym (rest_one a i h) ∙ e ∙ rest_one a₀ i h₀ in
      let head : get_or a₀ i 0 ≡ get_or a i 0 = cc in
      (rest_one a₀ i h₀ ∙ ap (λ (x : ℕ). x ∷ drop (i + 1) a₀) head, cc)

  pub next_same : (a t : List ℕ) (k i : ℕ) → Parting test a₀ t₀ a t k i → i < length a₀ → get_or a i 0 ≡ get_or a₀ i 0
  next_same a t k i q h =
      let p : get_or a i 0 ∷ drop (i + 1) a ≡ get_or a₀ i 0 ∷ drop (i + 1) a₀ = sym (rest_one a i (omega arith)) ∙ q.left ∙ rest_one a₀ i h in
      cc

  pub turn : (a t : List ℕ) (k i r : ℕ) → Parting test a₀ t₀ a t k i → i < length a₀ → length a₀ ≤ length t₀ → r ≡ one_if (test (get_or a i 0))
      → Parting test a₀ t₀ (set a k (get_or a i 0)) (set t (i - k) (get_or a i 0)) (k + r) (i + 1)
  turn a t k i r q h room e =
      let x : ℕ = get_or a i 0 in
      let ys : List ℕ = drop (i + 1) a₀ in
      let n = next a i q.left (omega arith) h in
      rw e
      record {
        upto = omega arith;
        low = at_most_one (test x) k i q.low;
        len_places = length-set a k x ∙ q.len_places;
        len_temp = length-set t (i - k) x ∙ q.len_temp;
        left = drop-set-lt (i + 1) a k x (omega arith) ∙ n.1;
        front = stored test (test x) a ys k x (omega arith) refl ∙ ap (λ (l : List ℕ). take k a ++ sift test l) (sym n.0) ∙ q.front;
        back = rw (moved (test x) k i q.low)
            (stored (λ p. not (test p)) (not (test x)) t ys (i - k) x (omega arith) refl
            ∙ ap (λ (l : List ℕ). take (i - k) t ++ sift (λ p. not (test p)) l) (sym n.0)
            ∙ q.back);
      }

  pub parted : (a t : List ℕ) (k i : ℕ) → Parting test a₀ t₀ a t k i → length a₀ ≤ i → Parted test a₀ a t k
  parted a t k i q h =
      let n : i ≡ length a₀ = omega arith in
      let none : drop i a₀ ≡ [] = drop_of_length-le a₀ h in
      let front : take k a ≡ sift test a₀ = sym (append-nil (take k a)) ∙ ap (λ (l : List ℕ). take k a ++ sift test l) (sym none) ∙ q.front in
      let back : take (length a₀ - k) t ≡ sift (λ p. not (test p)) a₀ =
      ap (λ (m : ℕ). take (m - k) t) (sym n)
      ∙ sym (append-nil (take (i - k) t))
      ∙ ap (λ (l : List ℕ). take (i - k) t ++ sift (λ p. not (test p)) l) (sym none)
      ∙ q.back in
      record { passed = front; others = back; count = sym (length-take-le k a (omega arith)) ∙ ap length front }
