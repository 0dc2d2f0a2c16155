-- Shadowing by three comparisons (rule O1), since a nearness is 0 or lies between the infinities'; and what can be said of the two
-- numbers that a vertex has in z.
use mathlib.Core.Path.{◌≡◌, refl, sym, ap, ◌∙◌}
use mathlib.Core.Bool.{Bool, true, false, not, cond, ◌&&◌}
use mathlib.Core.List.{List}
use Prim.Native.Nat.{ℕ, zero, suc, ◌+◌, ◌-◌, ◌%◌, ◌≤◌, ◌<◌}
use native.Mathlib.Omega.{arith}
use native.Mathlib.Decide.{dec_lt}
use borrow.Author.Tests.{lt-leb, ne_eqb, lt-ltb, le-ltb}
use lib.Dec.{leb, ltb, eqb}
use Rattle.float32.specs.SortOrder.{key_of}
use Rattle.math.specs.declared.words3.Words3.{Words3}
use Rattle.shadows.specs.Shadows.{flip_of, falls_z}
use Rattle.shadows.specs.Octants.{words_at, shadowed_in}
use Rattle.shadows.specs.Nearness.{turned, nearness_of, nearness_at, casts, nearest, hideable, caster, near_shadowed}
use Rattle.shadows.specs.Ranks.{beyond, cast_of, hide_of}
use Rattle.shadows.proofs.Truth.{never}
use Rattle.shadows.proofs.NearnessLaws.{shadowed_by_nearness}

-- ---- keys

-- a key of a word: a NaN's, or one between the infinities'
pub data IsKey (t : ℕ) : Type 0 where
  of_nan : t ≡ 0 → IsKey t
  between : 0x0080_0000 ≤ t → t ≤ 0xff80_0000 → IsKey t

key_is_key : (w : ℕ) → IsKey (key_of w)
unfolding key_of
key_is_key w = go (dec_lt 0x7f80_0000 (w % 0x8000_0000)) (ltb w 0x8000_0000)
  where
    go : Dec (0x7f80_0000 < w % 0x8000_0000) → (b : Bool)
        → IsKey (cond (ltb 0x7f80_0000 (w % 0x8000_0000)) 0 (cond b (0x8000_0000 + w % 0x8000_0000) (0x8000_0000 - w % 0x8000_0000)))
    go (yes h) b = rw (lt-ltb 0x7f80_0000 (w % 0x8000_0000) h) (of_nan refl)
    go (no h) true = rw (le-ltb 0x7f80_0000 (w % 0x8000_0000) (omega arith)) (between (omega arith) (omega arith))
    go (no h) false = rw (le-ltb 0x7f80_0000 (w % 0x8000_0000) (omega arith)) (between (omega arith) (omega arith))

turned_is_key : (falls : Bool) (t : ℕ) → IsKey t → IsKey (turned falls t)
turned_is_key true t k = k
turned_is_key false t (of_nan e) = rw e (of_nan refl)
turned_is_key false t (between a b) = rw (ne_eqb t 0 (λ e. omega arith)) (between (omega arith) (omega arith))

near_is_key : (o : ℕ) (ws : List ℕ) (p : ℕ) → IsKey (nearness_at o ws p).z
unfolding nearness_of
near_is_key o ws p = turned_is_key (falls_z o) (key_of (words_at ws p).z) (key_is_key (words_at ws p).z)

-- ---- three comparisons

ends : (a b : Bool) (c h : ℕ) → IsKey h → (b ≡ true → 0 < c) → leb (cond b c beyond) (cond a h 0) ≡ (a && (b && leb c h))
ends true true c h l p = refl
ends true false c h (of_nan e) p = lt-leb beyond h (omega arith)
ends true false c h (between e f) p = lt-leb beyond h (omega arith)
ends false true c h l p = lt-leb c 0 (p refl)
ends false false c h l p = lt-leb beyond 0 (omega arith)

caster_some : (a : Words3) → caster a ≡ true → 0 < a.z
unfolding caster
caster_some a e = positive a.z (zeros (casts a.x) (casts a.y) (eqb a.z 0) (not (eqb a.z nearest)) e)
  where
    zeros : (x y z w : Bool) → (x && (y && (not z && w))) ≡ true → z ≡ false
    zeros true true false w e = refl
    zeros true true true w e = never e refl
    zeros true false z w e = never e refl
    zeros false y z w e = never e refl

    positive : (z : ℕ) → eqb z 0 ≡ false → 0 < z
    positive zero e = never refl e
    positive (suc z) e = omega arith

near_by_ranks : (a b : Words3) → IsKey a.z
    → near_shadowed a b ≡ (leb b.x a.x && (leb b.y a.y && leb (cast_of b) (hide_of a)))
unfolding near_shadowed cast_of hide_of
near_by_ranks a b k =
    turn (hideable a) (caster b) (leb b.x a.x) (leb b.y a.y) (leb b.z a.z)
    ∙ ap (λ (t : Bool). leb b.x a.x && (leb b.y a.y && t)) (sym (ends (hideable a) (caster b) b.z a.z k (caster_some b)))
  where
    turn : (h c x y z : Bool) → (h && (c && (x && (y && z)))) ≡ (x && (y && (h && (c && z))))
    turn true true x y z = refl
    turn true false true true z = refl
    turn true false true false z = refl
    turn true false false y z = refl
    turn false c true true z = refl
    turn false c true false z = refl
    turn false c false y z = refl

-- Rule O1: vertex i is shadowed by vertex j.
pub shadowed_by_ranks : (o : ℕ) (ws : List ℕ) (i j : ℕ)
    → shadowed_in (flip_of o) ws i j ≡ (leb (nearness_at o ws j).x (nearness_at o ws i).x
    && (leb (nearness_at o ws j).y (nearness_at o ws i).y && leb (cast_of (nearness_at o ws j)) (hide_of (nearness_at o ws i))))
shadowed_by_ranks o ws i j =
    shadowed_by_nearness o ws i j ∙ near_by_ranks (nearness_at o ws i) (nearness_at o ws j) (near_is_key o ws i)

-- ---- the two numbers in z

low : (b : Bool) (z : ℕ) → IsKey z → cond b z 0 < beyond
low true z (of_nan e) = omega arith
low true z (between e f) = omega arith
low false z k = omega arith

lower : (h c : Bool) (z : ℕ) → IsKey z → cond h z 0 ≤ cond c z beyond
lower true true z k = omega arith
lower true false z (of_nan e) = omega arith
lower true false z (between e f) = omega arith
lower false c z k = omega arith

pub hide_below : (o : ℕ) (ws : List ℕ) (p : ℕ) → hide_of (nearness_at o ws p) < beyond
unfolding hide_of
hide_below o ws p = low (hideable (nearness_at o ws p)) (nearness_at o ws p).z (near_is_key o ws p)

-- What can be shadowed and casts is as far as itself; else it is nearer as one that casts.
pub hide_under_cast : (o : ℕ) (ws : List ℕ) (p : ℕ) → hide_of (nearness_at o ws p) ≤ cast_of (nearness_at o ws p)
unfolding hide_of cast_of
hide_under_cast o ws p = lower (hideable (nearness_at o ws p)) (caster (nearness_at o ws p)) (nearness_at o ws p).z (near_is_key o ws p)
