-- Parts of n numbers, filled one after the other: a loop that fills one (`Filling`), the keys of three, the rows of four; and that the list
-- of the rows is the octant's.
use mathlib.Core.Path.{◌≡◌, refl, sym, ap, ap₂, ◌∙◌, subst}
use mathlib.Core.Bool.{Bool, ◌&&◌}
use mathlib.Core.List.{List}
use Prim.Native.Nat.{ℕ, ◌+◌, ◌*◌, ◌≤◌, ◌<◌}
use native.Mathlib.Omega.{arith}
use native.Mathlib.Nat.{zero-add}
use lib.Dec.{leb}
use lib.ListN.{length, get_or, set, length-set}
use lib.Seq.{get_or-set_same, get_or-set_other}
use Rattle.float32.specs.SortOrder.{key_of}
use Rattle.shadows.specs.Kept.{kept_of}
use Rattle.shadows.specs.Shadows.{flip_of, falls_x, falls_y, falls_z}
use Rattle.shadows.specs.Octants.{shadowed_in, octant_of}
use Rattle.shadows.specs.Nearness.{turned, nearness_of, nearness_at}
use Rattle.shadows.specs.Ranks.{cast_of, hide_of}
use Rattle.shadows.proofs.Below.{Last, sooner, last, last_or}
use Rattle.shadows.proofs.MaximaLaws.{kept_alike}
use Rattle.shadows.proofs.RankLaws.{shadowed_by_ranks, hide_below, hide_under_cast}
use Rattle.far_order.specs.Rows.{x_at, y_at, shadowed_at, Rows, Written}
use Rattle.octants.specs.Steps.Parts.{Filled, Keyed, near_at, Laid}

-- ---- one part

pub record Filling (f : ℕ → ℕ) (n at : ℕ) (before now : List ℕ) (p : ℕ) : Type 0 where
  pub upto : p ≤ n
  pub len : length now ≡ length before
  pub put : (q : ℕ) → q < p → get_or now (at + q) 0 ≡ f q
  pub left : (i : ℕ) → i < at → get_or now i 0 ≡ get_or before i 0

pub unfilled : (f : ℕ → ℕ) (n at : ℕ) (before : List ℕ) → Filling f n at before before 0
unfilled f n at before = record { upto = omega arith; len = refl; put = λ q l. absurd (omega arith); left = λ i l. refl }

pub fill_more : (f : ℕ → ℕ) (n at : ℕ) (before now : List ℕ) (p v : ℕ) → Filling f n at before now p → p < n → at + n ≤ length before → v ≡ f p
    → Filling f n at before (set now (at + p) v) (p + 1)
fill_more f n at before now p v g more room e =
    record {
      upto = omega arith;
      len = length-set now (at + p) v ∙ g.len;
      put = λ q l. go q (last_or p q (omega arith));
      left = λ i l. get_or-set_other now (at + p) i v 0 (λ h. omega arith) ∙ g.left i l;
    }
  where
    go : (q : ℕ) → Last p q → get_or (set now (at + p) v) (at + q) 0 ≡ f q
    go q (sooner l) = get_or-set_other now (at + p) (at + q) v 0 (λ h. omega arith) ∙ g.put q l
    go q (last h) =
        ap (λ (k : ℕ). get_or (set now (at + p) v) (at + k) 0) h
        ∙ get_or-set_same now (at + p) v 0 (omega (arith, g.len))
        ∙ e
        ∙ ap f (sym h)

pub filled : (f : ℕ → ℕ) (n at : ℕ) (before now : List ℕ) (p : ℕ) → Filling f n at before now p → n ≤ p → Filled f n at before now
filled f n at before now p g h = record { len = g.len; put = λ q l. g.put q (omega arith); left = g.left }

-- a part past x and y leaves them as they are
pub near_kept : (falls : Bool) (f : ℕ → ℕ) (n at : ℕ) (keys before now : List ℕ) (p : ℕ) → 2 * n ≤ at → Filling f n at before now p → p < n
    → near_at falls n keys now p ≡ near_at falls n keys before p
unfolding near_at
near_kept falls f n at keys before now p past g l =
    λ i. record { x = g.left p (omega arith) i; y = g.left (n + p) (omega arith) i; z = turned falls (get_or keys (2 * n + p) 0) }

-- ---- three parts

pub keyed : (n : ℕ) (ws a b c d : List ℕ) → Filled (λ p. key_of (get_or ws (3 * p + 0) 0)) n 0 a b → Filled (λ p. key_of (get_or ws (3 * p + 1) 0)) n n b c
    → Filled (λ p. key_of (get_or ws (3 * p + 2) 0)) n (2 * n) c d → Keyed n ws d
keyed n ws a b c d x y z =
    record {
      key_x =
          λ p l.
          let e : 3 * p + 0 ≡ 3 * p = omega arith in
          z.left p (omega arith) ∙ y.left p l ∙ ap (λ (k : ℕ). get_or b k 0) (sym (zero-add p)) ∙ x.put p l ∙ ap (λ (k : ℕ). key_of (get_or ws k 0)) e;
      key_y = λ p l. z.left (n + p) (omega arith) ∙ y.put p l;
      key_z = z.put;
    }

-- ---- four parts

module _ (o n : ℕ) (ws keys a b c d e : List ℕ) (k : Keyed n ws keys)
    (x : Filled (λ p. turned (falls_x o) (get_or keys (0 + p) 0)) n 0 a b)
    (y : Filled (λ p. turned (falls_y o) (get_or keys (n + p) 0)) n n b c)
    (u : Filled (λ p. cast_of (near_at (falls_z o) n keys c p)) n (2 * n) c d)
    (v : Filled (λ p. hide_of (near_at (falls_z o) n keys d p)) n (3 * n) d e) where
  on_x : (p : ℕ) → p < n → x_at c p ≡ (nearness_at o ws p).x
  unfolding nearness_of
  on_x p l =
      y.left p l
      ∙ ap (λ (i : ℕ). get_or b i 0) (sym (zero-add p))
      ∙ x.put p l
      ∙ ap (turned (falls_x o)) (ap (λ (i : ℕ). get_or keys i 0) (zero-add p) ∙ k.key_x p l)

  on_y : (p : ℕ) → p < n → y_at n c p ≡ (nearness_at o ws p).y
  unfolding nearness_of
  on_y p l = y.put p l ∙ ap (turned (falls_y o)) (k.key_y p l)

  on_z : (p : ℕ) → p < n → turned (falls_z o) (get_or keys (2 * n + p) 0) ≡ (nearness_at o ws p).z
  unfolding nearness_of
  on_z p l = ap (turned (falls_z o)) (k.key_z p l)

  near_c : (p : ℕ) → p < n → near_at (falls_z o) n keys c p ≡ nearness_at o ws p
  unfolding near_at
  near_c p l = λ i. record { x = on_x p l i; y = on_y p l i; z = on_z p l i }

  near_d : (p : ℕ) → p < n → near_at (falls_z o) n keys d p ≡ nearness_at o ws p
  unfolding near_at
  near_d p l =
      λ i. record { x = (u.left p (omega arith) ∙ on_x p l) i; y = (u.left (n + p) (omega arith) ∙ on_y p l) i; z = on_z p l i }

  pub laid : Laid o ws n e
  laid =
      record {
        x_is = λ p l. v.left p (omega arith) ∙ u.left p (omega arith) ∙ on_x p l;
        y_is = λ p l. v.left (n + p) (omega arith) ∙ u.left (n + p) (omega arith) ∙ on_y p l;
        cast_is = λ p l. v.left (2 * n + p) (omega arith) ∙ u.put p l ∙ ap cast_of (near_c p l);
        hide_is = λ p l. v.put p l ∙ ap hide_of (near_d p l);
      }

-- ---- the list of the rows

module _ (o : ℕ) (ws : List ℕ) (n : ℕ) (rows : List ℕ) (w : Laid o ws n rows) where
  pub rows_of : n ≤ 32768 → 4 * n ≤ length rows → Rows n rows
  rows_of few size =
      record {
        size = size;
        few = few;
        ends = λ p l. omega (arith, w.hide_is p l, w.cast_is p l, hide_under_cast o ws p);
        hidden_below = λ p l. omega (arith, w.hide_is p l, hide_below o ws p);
      }

  rows_keep : kept_of (shadowed_at n rows) n ≡ octant_of o ws n
  unfolding shadowed_at
  rows_keep = kept_alike (shadowed_at n rows) (shadowed_in (flip_of o) ws) n same
    where
      same : (i j : ℕ) → i < n → j < n → shadowed_at n rows i j ≡ shadowed_in (flip_of o) ws i j
      same i j a b =
          ap₂ ◌&&◌ (ap₂ leb (w.x_is j b) (w.x_is i a))
          (ap₂ ◌&&◌ (ap₂ leb (w.y_is j b) (w.y_is i a)) (ap₂ leb (w.cast_is j b) (w.hide_is i a)))
          ∙ sym (shadowed_by_ranks o ws i j)

  pub octant_written : (before after : List ℕ) (r : ℕ) → Written (kept_of (shadowed_at n rows) n) before after r → Written (octant_of o ws n) before after r
  octant_written before after r w = subst (λ (l : List ℕ). Written l before after r) rows_keep w
