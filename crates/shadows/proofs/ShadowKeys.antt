-- Shadowing is a plain order of whole numbers (rule O1): the rounded test on an axis is one of the words' keys. By the order of floats, and by how
-- keys stand to it.
use mathlib.Core.Path.{◌≡◌, refl, sym, ap, ◌∙◌, subst}
use mathlib.Core.Bool.{Bool, true, false, not, ◌&&◌, ◌||◌}
use mathlib.Core.List.{List}
use Prim.Native.Nat.{ℕ}
use lib.Dec.{T, eqb}
use lib.Ieee.{Float, nan, inf, fin, binary32, of_bits, is_nan, lt, eq, le}
use lib.Ieee.Bits.{of_bits-fits}
use Rattle.std.specs.Prelude.{Option, None, Some}
use Rattle.std.specs.declared.cmp.Ordering.{Ordering}
use Rattle.std.specs.declared.cmp.Ordering.TheVariants.{Less, Equal, Greater}
use Rattle.std.specs.Ordering.{is_lt, is_eq, is_le, is_some_and}
use Rattle.float32.specs.Comparison.{relation_of}
use Rattle.float32.specs.SortOrder.{cmp_by, cmp_of, key_of}
use Rattle.float32.proofs.KeyLaws.{key_nan, key_le, key_eq}
use Rattle.float32.proofs.Relations as Relations
use Rattle.math.specs.declared.words3.Words3.{Words3}
use Rattle.math.specs.Stored.{values_of}
use Rattle.shadows.specs.Shadows.{sign, reaches, flip_of, shadowed_by, falls_x, falls_y, falls_z}
use Rattle.shadows.specs.Ends.{is_inf, ahead, order_reaches}
use Rattle.shadows.specs.Keys.{far_end, as_far, key_reaches, shadowed_by_keys}
use Rattle.shadows.specs.Octants.{words_at, shadowed_in}
use Rattle.shadows.proofs.AxisLaws.{reaches_by_order}

-- ---- the infinities' keys

equal_inf : (s : Bool) (x : Float) → is_eq (cmp_of x (inf s)) ≡ is_inf s x
unfolding cmp_of is_inf relation_of
equal_inf true nan = refl
equal_inf false nan = refl
equal_inf true (inf true) = refl
equal_inf true (inf false) = refl
equal_inf false (inf true) = refl
equal_inf false (inf false) = refl
equal_inf true (fin true m e) = refl
equal_inf true (fin false m e) = refl
equal_inf false (fin true m e) = refl
equal_inf false (fin false m e) = refl

abbrev inf_word : Bool → ℕ
inf_word false = 0x7f80_0000
inf_word true = 0xff80_0000

inf_key : (s : Bool) → key_of (inf_word s) ≡ far_end s
unfolding key_of
inf_key true = refl
inf_key false = refl

inf_value : (s : Bool) → of_bits binary32 (inf_word s) ≡ inf s
unfolding of_bits
inf_value true = refl
inf_value false = refl

key_inf : (s : Bool) (w : ℕ) → eqb (key_of w) (far_end s) ≡ is_inf s (of_bits binary32 w)
key_inf s w =
    ap (eqb (key_of w)) (sym (inf_key s)) ∙ key_eq w (inf_word s) ∙ ap (λ (y : Float). is_eq (cmp_of (of_bits binary32 w) y)) (inf_value s)
    ∙ equal_inf s (of_bits binary32 w)

-- ---- keys stand as the floats do, off NaN

at_most_le : (x y : Float) → is_nan x ≡ false → is_le (cmp_of x y) ≡ le x y
unfolding cmp_of
at_most_le x y h = rw h (go (relation_of x y) (is_nan y)) ∙ sym (Relations.le_says x y)
  where
    go : (r : Option Ordering) (b : Bool) → is_le (cmp_by r false b) ≡ (is_some_and is_lt r || is_some_and is_eq r)
    go (Some Less) b = refl
    go (Some Equal) b = refl
    go (Some Greater) b = refl
    go None b = refl

key_far : (falls : Bool) (a b : ℕ) → is_nan (of_bits binary32 a) ≡ false → is_nan (of_bits binary32 b) ≡ false
    → as_far falls (key_of a) (key_of b) ≡ ahead falls (of_bits binary32 a) (of_bits binary32 b)
unfolding ahead
key_far false a b p q = key_le a b ∙ at_most_le (of_bits binary32 a) (of_bits binary32 b) p
key_far true a b p q = key_le b a ∙ at_most_le (of_bits binary32 b) (of_bits binary32 a) q

nan_behind : (falls : Bool) (x y : Float) → is_nan x ≡ true → ahead falls x y ≡ false
unfolding ahead is_nan le lt eq
nan_behind false nan y h = refl
nan_behind true nan nan h = refl
nan_behind true nan (inf t) h = refl
nan_behind true nan (fin t n d) h = refl
nan_behind falls (inf s) y h = absurd (subst T (sym h) tt)
nan_behind falls (fin s m e) y h = absurd (subst T (sym h) tt)

nan_before : (falls : Bool) (x y : Float) → is_nan y ≡ true → ahead falls x y ≡ false
unfolding ahead
nan_before false x y h = nan_behind true y x h
nan_before true x y h = nan_behind false y x h

-- ---- one axis

pub reaches_by_keys : (falls : Bool) (a b : ℕ) → reaches (sign falls) (of_bits binary32 a) (of_bits binary32 b) ≡ key_reaches falls (key_of a) (key_of b)
unfolding key_reaches order_reaches
reaches_by_keys falls a b =
    reaches_by_order falls x y (of_bits-fits binary32 a) (of_bits-fits binary32 b)
    ∙ sym (rw (key_nan a, key_nan b, key_inf falls a, key_inf (not falls) b) (go (is_nan x) (is_nan y) refl refl (is_inf falls x) (is_inf (not falls) y)))
  where
    x : Float
    x = of_bits binary32 a

    y : Float
    y = of_bits binary32 b

    none : (u v : Bool) → false ≡ (u && (v && false))
    none true true = refl
    none true false = refl
    none false v = refl

    never : (u : Bool) → (u && false) ≡ false
    never true = refl
    never false = refl

    go : (p q : Bool) → is_nan x ≡ p → is_nan y ≡ q → (u v : Bool)
        → ((not p && not u) && ((not q && not v) && as_far falls (key_of a) (key_of b))) ≡ (not u && (not v && ahead falls x y))
    go true q e f u v = rw (nan_behind falls x y e) (none (not u) (not v))
    go false true e f u v = rw (nan_before falls x y f) (never (not u) ∙ none (not u) (not v))
    go false false e f u v = rw (key_far falls a b e f)

-- ---- all three

-- Rule O1: a vertex shadows another exactly where its keys say so.
pub shadowed_by_keys_lem : (o : ℕ) (a b : Words3) → shadowed_by (flip_of o) (values_of a) (values_of b) ≡ shadowed_by_keys o a b
unfolding shadowed_by flip_of shadowed_by_keys
shadowed_by_keys_lem o a b =
    rw (reaches_by_keys (falls_x o) a.x b.x, reaches_by_keys (falls_y o) a.y b.y, reaches_by_keys (falls_z o) a.z b.z)

pub shadowed_in_by_keys : (o : ℕ) (ws : List ℕ) (i j : ℕ) → shadowed_in (flip_of o) ws i j ≡ shadowed_by_keys o (words_at ws i) (words_at ws j)
unfolding shadowed_in
shadowed_in_by_keys o ws i j = shadowed_by_keys_lem o (words_at ws i) (words_at ws j)
