-- A buffer that is cut into parts serves exactly where it is as long as all of them together. By induction on the parts. Assumes nothing.
use Prim.Native.Nat.{ℕ, ◌+◌, ◌-◌, ◌≤◌, ◌<◌}
use native.Mathlib.Omega.{arith}
use mathlib.Core.Bool.{Bool, true, false, cond, ◌||◌, or-true, or-false, or_assoc}
use mathlib.Core.List.{List, [], ◌∷◌}
use mathlib.Core.Path.{◌≡◌, refl, sym, ap, ◌∙◌}
use borrow.Author.Tests.{lt-ltb, le-ltb, ltb-true, ltb-false}
use lib.Dec.{ltb}
use Rattle.base.specs.Cuts.{lesser, total, cut, any_short}

-- a number within its limit is not cut down to it
pub lesser_within : (n limit : ℕ) → n ≤ limit → lesser n limit ≡ n
lesser_within n limit within = by (ltb n limit) refl
  where
    by : (t : Bool) → ltb n limit ≡ t → cond t n limit ≡ n
    by true below = refl
    by false above = let most : limit ≤ n = ltb-false n limit above in omega arith

-- behind a whole part less than b is left exactly where there was less than both
less_behind : (a b w : ℕ) → a ≤ w → ltb (w - a) b ≡ ltb w (a + b)
less_behind a b w enough = by (ltb w (a + b)) refl
  where
    by : (t : Bool) → ltb w (a + b) ≡ t → ltb (w - a) b ≡ t
    by true few = let less : w < a + b = ltb-true w (a + b) few in lt-ltb (w - a) b (omega arith)
    by false many = let most : a + b ≤ w = ltb-false w (a + b) many in le-ltb (w - a) b (omega arith)

-- a part of a, and b behind it
one_more : (a b w : ℕ) → ltb (lesser a w) a || ltb (w - lesser a w) b ≡ ltb w (a + b)
one_more a b w = by (ltb a w) (ltb w a) refl refl
  where
    by : (s t : Bool) → ltb a w ≡ s → ltb w a ≡ t → ltb (cond s a w) a || ltb (w - cond s a w) b ≡ ltb w (a + b)
    by true t enough any =
        let more : a < w = ltb-true a w enough in
        rw (le-ltb a a (omega arith)) (less_behind a b w (omega arith))
    by false true most few =
        let less : w < a = ltb-true w a few in
        rw (lt-ltb w a less, lt-ltb w (a + b) (omega arith))
    by false false most least =
        let above : a ≤ w = ltb-false w a least in
        let below : w ≤ a = ltb-false a w most in
        let same : w ≡ a = omega arith in
        rw (le-ltb w a above) (rw (ap (λ (x : ℕ). ltb (w - x) b) same) (less_behind a b w above))

-- One buffer that is cut into the parts has one that is too short exactly where it is shorter than all of them together.
pub cut_serves : (parts : List ℕ) (w : ℕ) → any_short parts (cut parts w) ≡ ltb w (total parts)
cut_serves [] w = sym (le-ltb w 0 (omega arith))
cut_serves (least ∷ []) w = or-false (ltb w least) ∙ ap (ltb w) (omega arith)
cut_serves (least ∷ next ∷ more) w =
    ap (λ (t : Bool). ltb (lesser least w) least || t) (cut_serves (next ∷ more) (w - lesser least w))
    ∙ one_more least (total (next ∷ more)) w

-- ---- tests of the parts in a row, as a check writes them: `other || first part || second part || ..`

abbrev pub short_after : Bool → List ℕ → List ℕ → Bool
short_after other [] lengths = other
short_after other (least ∷ more) [] = true
short_after other (least ∷ more) (length ∷ lengths) = short_after (other || ltb length least) more lengths

pub in_a_row : (other : Bool) (parts lengths : List ℕ) → short_after other parts lengths ≡ other || any_short parts lengths
in_a_row other [] lengths = sym (or-false other)
in_a_row other (least ∷ more) [] = sym (or-true other)
in_a_row other (least ∷ more) (length ∷ lengths) =
    in_a_row (other || ltb length least) more lengths ∙ or_assoc other (ltb length least) (any_short more lengths)

-- tests in brackets stand in the row
pub into_row : (other test : Bool) (parts lengths : List ℕ) → other || short_after test parts lengths ≡ short_after (other || test) parts lengths
into_row other test parts lengths =
    ap (λ (t : Bool). other || t) (in_a_row test parts lengths)
    ∙ sym (in_a_row (other || test) parts lengths ∙ or_assoc other test (any_short parts lengths))
