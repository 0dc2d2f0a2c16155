-- Shadowing by turned keys is shadowing by keys: turning reverses the order, keeps NaN apart, and puts the far infinity at one end in every octant.
use mathlib.Core.Path.{◌≡◌, refl, sym, ◌∙◌}
use mathlib.Core.Logic.{◌⊎◌, inl, inr}
use mathlib.Core.Bool.{Bool, true, false, not, cond, ◌&&◌}
use mathlib.Core.List.{List}
use Prim.Native.Nat.{ℕ, ◌-◌, ◌≤◌, ◌<◌}
use native.Mathlib.Omega.{arith}
use native.Mathlib.Decide.{dec_le}
use lib.Dec.{T, leb, eqb}
use lib.Ieee.Fits.{and_l, and_r, and_i}
use borrow.Author.Tests.{le-leb, lt-leb, eq-eqb, ne_eqb, eqb-true, eqb-false}
use Rattle.float32.specs.SortOrder.{key_of}
use Rattle.float32.proofs.KeyLaws.{key_fits}
use Rattle.base.proofs.Truth.{T_ext}
use Rattle.math.specs.declared.words3.Words3.{Words3}
use Rattle.shadows.specs.Shadows.{flip_of, falls_x, falls_y, falls_z}
use Rattle.shadows.specs.Keys.{key_reaches, shadowed_by_keys}
use Rattle.shadows.specs.Nearness.{turned, nearness_of, nearness_at, hides, casts, near_shadowed}
use Rattle.shadows.specs.Octants.{words_at, shadowed_in}
use Rattle.shadows.proofs.Truth.{decide}
use Rattle.shadows.proofs.ShadowKeys.{shadowed_in_by_keys}

-- ---- one axis

module _ (k : ℕ) (h : k < 0x1_0000_0000) where
  turned_zero : eqb (turned false k) 0 ≡ eqb k 0
  turned_zero = go (eqb k 0) refl
    where
      go : (b : Bool) → eqb k 0 ≡ b → eqb (cond b 0 (0x1_0000_0000 - k)) 0 ≡ b
      go true e = refl
      go false e = ne_eqb (0x1_0000_0000 - k) 0 (λ f. omega arith)

  -- the far infinity's key is turned to the lesser of the two, and the near one's to the greater
  turned_end : (end : ℕ) → 0 < end → end < 0x1_0000_0000 → eqb (turned false k) (0x1_0000_0000 - end) ≡ eqb k end
  turned_end end p q = go (eqb k 0) refl (decide (eqb k end))
    where
      go : (b : Bool) → eqb k 0 ≡ b → (eqb k end ≡ true) ⊎ (eqb k end ≡ false) → eqb (cond b 0 (0x1_0000_0000 - k)) (0x1_0000_0000 - end) ≡ eqb k end
      go true e d =
          let f : k ≡ 0 = eqb-true k 0 e in
          ne_eqb 0 (0x1_0000_0000 - end) (λ g. omega arith) ∙ sym (ne_eqb k end (λ g. omega arith))
      go false e (inl d) = eq-eqb (0x1_0000_0000 - k) (0x1_0000_0000 - end) (omega (arith, eqb-true k end d)) ∙ sym d
      go false e (inr d) = ne_eqb (0x1_0000_0000 - k) (0x1_0000_0000 - end) (λ g. eqb-false k end d (omega arith)) ∙ sym d

turned_order : (k l : ℕ) → k < 0x1_0000_0000 → l < 0x1_0000_0000 → eqb k 0 ≡ false → eqb l 0 ≡ false → leb (turned false l) (turned false k) ≡ leb k l
turned_order k l h h' e f = rw (e, f) (go (dec_le k l))
  where
    go : Dec (k ≤ l) → leb (0x1_0000_0000 - l) (0x1_0000_0000 - k) ≡ leb k l
    go (yes d) = le-leb (0x1_0000_0000 - l) (0x1_0000_0000 - k) (omega arith) ∙ sym (le-leb k l d)
    go (no d) = lt-leb (0x1_0000_0000 - l) (0x1_0000_0000 - k) (omega arith) ∙ sym (lt-leb k l (omega arith))

-- one axis of `near_shadowed`
abbrev near_reaches : ℕ → ℕ → Bool
near_reaches s t = hides s && (casts t && leb t s)

near_reaches_lem : (falls : Bool) (k l : ℕ) → k < 0x1_0000_0000 → l < 0x1_0000_0000 → key_reaches falls k l ≡ near_reaches (turned falls k) (turned falls l)
unfolding key_reaches
near_reaches_lem true k l h h' = refl
near_reaches_lem false k l h h' =
    sym (rw (
      turned_zero k h,
      turned_zero l h',
      turned_end k h 0xff80_0000 (omega arith) (omega arith),
      turned_end l h' 0x0080_0000 (omega arith)
          (omega arith),
    ) (go (eqb k 0) (eqb l 0) refl refl))
  where
    go : (a b : Bool) → eqb k 0 ≡ a → eqb l 0 ≡ b
        → ((not a && not (eqb k 0xff80_0000)) && ((not b && not (eqb l 0x0080_0000)) && leb (turned false l) (turned false k))) ≡
        ((not a && not (eqb k 0xff80_0000)) && ((not b && not (eqb l 0x0080_0000)) && leb k l))
    go true b e f = refl
    go false true e f = refl
    go false false e f = rw (turned_order k l h h' e f)

-- ---- three axes: all that can be shadowed, all that can shadow, all as far

regroup : (h c l h' c' l' h'' c'' l'' : Bool)
    → ((h && (c && l)) && ((h' && (c' && l')) && (h'' && (c'' && l'')))) ≡ ((h && (h' && h'')) && ((c && (c' && c'')) && (l && (l' && l''))))
regroup h c l h' c' l' h'' c'' l'' = T_ext _ _ to from
  where
    to : T ((h && (c && l)) && ((h' && (c' && l')) && (h'' && (c'' && l'')))) → T ((h && (h' && h'')) && ((c && (c' && c'')) && (l && (l' && l''))))
    to t =
        let u = and_l (h && (c && l)) ((h' && (c' && l')) && (h'' && (c'' && l''))) t in
        let v = and_r (h && (c && l)) ((h' && (c' && l')) && (h'' && (c'' && l''))) t in
        let w = and_l (h' && (c' && l')) (h'' && (c'' && l'')) v in
        let x = and_r (h' && (c' && l')) (h'' && (c'' && l'')) v in
        and_i (h && (h' && h'')) ((c && (c' && c'')) && (l && (l' && l'')))
        (and_i h (h' && h'') (and_l h (c && l) u) (and_i h' h'' (and_l h' (c' && l') w) (and_l h'' (c'' && l'') x)))
        (and_i (c && (c' && c'')) (l && (l' && l''))
        (and_i c (c' && c'') (and_l c l (and_r h (c && l) u)) (and_i c' c'' (and_l c' l' (and_r h' (c' && l') w)) (and_l c'' l'' (and_r h'' (c'' && l'') x))))
        (and_i l (l' && l'') (and_r c l (and_r h (c && l) u)) (and_i l' l'' (and_r c' l' (and_r h' (c' && l') w)) (and_r c'' l'' (and_r h'' (c'' && l'') x)))))

    from : T ((h && (h' && h'')) && ((c && (c' && c'')) && (l && (l' && l'')))) → T ((h && (c && l)) && ((h' && (c' && l')) && (h'' && (c'' && l''))))
    from t =
        let u = and_l (h && (h' && h'')) ((c && (c' && c'')) && (l && (l' && l''))) t in
        let r = and_r (h && (h' && h'')) ((c && (c' && c'')) && (l && (l' && l''))) t in
        let v = and_l (c && (c' && c'')) (l && (l' && l'')) r in
        let w = and_r (c && (c' && c'')) (l && (l' && l'')) r in
        let u' = and_r h (h' && h'') u in
        let v' = and_r c (c' && c'') v in
        let w' = and_r l (l' && l'') w in
        and_i (h && (c && l)) ((h' && (c' && l')) && (h'' && (c'' && l'')))
        (and_i h (c && l) (and_l h (h' && h'') u) (and_i c l (and_l c (c' && c'') v) (and_l l (l' && l'') w)))
        (and_i (h' && (c' && l')) (h'' && (c'' && l''))
        (and_i h' (c' && l') (and_l h' h'' u') (and_i c' l' (and_l c' c'' v') (and_l l' l'' w')))
        (and_i h'' (c'' && l'') (and_r h' h'' u') (and_i c'' l'' (and_r c' c'' v') (and_r l' l'' w'))))

three_axes : (s t s' t' s'' t'' : ℕ)
    → (near_reaches s t && (near_reaches s' t' && near_reaches s'' t'')) ≡ near_shadowed (record { x = s; y = s'; z = s'' }) (record { x = t; y = t'; z = t'' })
unfolding near_shadowed
three_axes s t s' t' s'' t'' = regroup (hides s) (casts t) (leb t s) (hides s') (casts t') (leb t' s') (hides s'') (casts t'') (leb t'' s'')

pub keys_by_nearness : (o : ℕ) (a b : Words3) → shadowed_by_keys o a b ≡ near_shadowed (nearness_of o a) (nearness_of o b)
unfolding shadowed_by_keys nearness_of
keys_by_nearness o a b =
    rw (
      near_reaches_lem (falls_x o) (key_of a.x) (key_of b.x) (key_fits a.x) (key_fits b.x),
      near_reaches_lem (falls_y o) (key_of a.y) (key_of b.y) (key_fits a.y) (key_fits b.y),
      near_reaches_lem (falls_z o) (key_of a.z) (key_of b.z) (key_fits a.z) (key_fits b.z),
    )
    (three_axes _ _ _ _ _ _)

pub shadowed_by_nearness : (o : ℕ) (ws : List ℕ) (i j : ℕ) → shadowed_in (flip_of o) ws i j ≡ near_shadowed (nearness_at o ws i) (nearness_at o ws j)
shadowed_by_nearness o ws i j = shadowed_in_by_keys o ws i j ∙ keys_by_nearness o (words_at ws i) (words_at ws j)
