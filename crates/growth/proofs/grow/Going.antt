-- The loop of `grow`: the lists of `Pending` stand in the slices, the lengths that wait from sp on in the stack, their places from lo on in `places`.
use Prim.Native.Nat.{ℕ, suc, ◌+◌, ◌-◌, ◌*◌, ◌≤◌, ◌<◌}
use native.Mathlib.Omega.{arith}
use native.Mathlib.Numerals.{add-one}
use mathlib.Core.List.{List, [], ◌∷◌, ◌++◌, append-nil}
use mathlib.Core.Path.{◌≡◌, refl, ap, ap₂, ◌∙◌}
use lib.ListN.{length, get_or, set, take, drop, length-drop, length-set, drop_of_length-le}
use lib.Seq.{get_or-set_same, drop-set-lt, length-take-le, drop_at, drop-cons, take-add, take_all, drop-drop}
use borrow.Rule.Slice.PartMut.{put_mid, same_len_mid, take_put}
use Rattle.base.proofs.WithinLaws.{within_append, within_take, within_drop}
use Rattle.base.specs.Lists.{Within}
use Rattle.rows.specs.Rows.{Row}
use Rattle.growth.specs.Grow.{Builder, grow}
use Rattle.growth.specs.Steps.Laid.{Room, InnerPut, Laid}
use Rattle.rows.specs.Steps.Sizes.{bare_rows}
use Rattle.rows.specs.Steps.Table.{table_of, with_row}
use Rattle.growth.proofs.Lawful.{Lawful}
use Rattle.growth.proofs.grow.Pending.{Pending, Some, sum, some_most, begin, leaf_step, inner_step}
use Rattle.growth.proofs.grow.Written.{one_more}

-- the slices that the loop changes
pub record Slices : Type 0 where
  pub places : List ℕ
  pub temp : List ℕ
  pub stack : List ℕ
  pub rows : List ℕ

-- none changes its length
pub record Same (s₀ s : Slices) : Type 0 where
  pub places_same : length s.places ≡ length s₀.places
  pub temp_same : length s.temp ≡ length s₀.temp
  pub stack_same : length s.stack ≡ length s₀.stack
  pub rows_same : length s.rows ≡ length s₀.rows

pub record Going (b : Builder) (th : ℕ) (entries : List ℕ) (s₀ s : Slices) (sp lo m : ℕ) : Type 0 where
  pub laid : List Row
  pub pending : Pending b th (grow b th s₀.places) (length s₀.places) (drop sp s.stack) (drop lo s.places) (take lo s.places) laid lo m
  pub written : take (8 * m) s.rows ≡ table_of laid
  pub deep : sp ≤ length s.stack
  pub same : Same s₀ s
  pub within : Within (length entries) s.places

-- what a turn knows of the length k at the top of the stack
pub record Top (th : ℕ) (s₀ s : Slices) (sp lo m k : ℕ) : Type 0 where
  pub in_stack : sp < length s.stack
  pub some : 0 < k
  pub in_places : lo + k ≤ length s.places
  pub few : lo + k < 32768
  pub in_rows : 8 * m + 8 ≤ length s.rows
  pub below : m < 2 * length s₀.places
  pub in_temp : k ≤ length s.temp
  pub more : th < k → 0 < sp

not_none : (ks : List ℕ) → 0 < sum ks → 0 < length ks
not_none [] h = h
not_none (k ∷ ks) h = omega arith

no_more : (ks : List ℕ) → Some ks → sum ks ≡ 0 → ks ≡ []
no_more [] s h = refl
no_more (k ∷ ks) s h = absurd (omega (arith, s.0))

-- two lengths in the place of one on the stack
pushed : (st : List ℕ) (sp a v : ℕ) → 0 < sp → sp < length st
    → drop (sp - 1) (set (set st sp v) (sp - 1) a) ≡ a ∷ (v ∷ drop (suc sp) st)
pushed st sp a v h₀ h =
    let q : ℕ = sp - 1 in
    let e : suc q ≡ sp = omega arith in
    let s₁ : List ℕ = set st sp v in
    let s₂ : List ℕ = set s₁ q a in
    let l₁ : length s₁ ≡ length st = length-set st sp v in
    let l₂ : length s₂ ≡ length s₁ = length-set s₁ q a in
    drop-cons s₂ q 0 (omega arith)
    ∙ ap₂ ◌∷◌ (get_or-set_same s₁ q a 0 (omega arith))
    (drop-set-lt (suc q) s₁ q a (omega arith) ∙ ap (λ (i : ℕ). drop i s₁) e
    ∙ drop-cons s₁ sp 0 (omega arith)
    ∙ ap₂ ◌∷◌ (get_or-set_same st sp v 0 h) (drop-set-lt (suc sp) st sp v (omega arith)))

-- a store into the stack leaves the room
pub room_set : {th : ℕ} {places temp entries stack table : List ℕ} (i v : ℕ) → Room th places temp entries stack table
    → Room th places temp entries (set stack i v) table
room_set i v r =
    record {
      few = r.few;
      temp_room = r.temp_room;
      stack_room = rw length-set r.stack_room;
      rows_room = r.rows_room;
      threshold = r.threshold;
      within = r.within;
    }

pub segment_length : (l : List ℕ) (lo k : ℕ) → lo + k ≤ length l → length (take (lo + k - lo) (drop lo l)) ≡ k
segment_length l lo k h = length-take-le (lo + k - lo) (drop lo l) (omega (arith, length-drop lo l)) ∙ omega arith

module _ (b : Builder) (law : Lawful b) (th : ℕ) (entries : List ℕ) (s₀ : Slices)
    (room : Room th s₀.places s₀.temp entries s₀.stack s₀.rows) where
  pub start : (stack : List ℕ) → s₀.stack ≡ set stack (length stack - 1) (length s₀.places) → 0 < length s₀.places
      → Going b th entries s₀ s₀ (length stack - 1) 0 0
  start stack es some =
      let p : ℕ = length stack - 1 in
      let n : ℕ = length s₀.places in
      let l : length s₀.stack ≡ length stack = ap length es ∙ length-set stack p n in
      let deep = room.stack_room in
      let e : drop p s₀.stack ≡ n ∷ [] =
      drop-cons s₀.stack p 0 (omega arith)
      ∙ ap₂ ◌∷◌ (rw es (get_or-set_same stack p n 0 (omega arith))) (drop_of_length-le s₀.stack {i = suc p} (omega arith)) in
      record {
        laid = [];
        pending = rw e (begin b law th room.threshold s₀.places some);
        written = refl;
        deep = omega arith;
        same = record { places_same = refl; temp_same = refl; stack_same = refl; rows_same = refl };
        within = room.within;
      }

  module _ (s : Slices) (sp lo m : ℕ) (g : Going b th entries s₀ s sp lo m) where
    pub ended : length s₀.places ≤ lo → Laid b th s₀.places s.places s.rows m
    ended h =
        let w : lo + length (drop lo s.places) ≡ length s₀.places = g.pending.whole in
        let sm : sum (drop sp s.stack) ≡ length (drop lo s.places) = g.pending.span in
        let empty : drop sp s.stack ≡ [] = no_more (drop sp s.stack) g.pending.some (omega arith) in
        let all : take lo s.places ≡ s.places = take_all lo s.places (omega (arith, g.same.places_same)) in
        let p : Pending b th (grow b th s₀.places) (length s₀.places) [] (drop lo s.places) s.places g.laid lo m =
        rw (empty, all) at g.pending in
        let e : g.laid ≡ bare_rows 0 (grow b th s₀.places) = rw append-nil at p.rows_are in
        record {
          order_is = rw append-nil at p.order_is;
          rows_are = g.written ∙ ap table_of e;
          most = omega (arith, p.room);
        }

    module _ (h : lo < length s₀.places) where
      in_stack₀ : sp < length s.stack
      in_stack₀ =
          let l : length (drop sp s.stack) ≡ length s.stack - sp = length-drop sp s.stack in
          let ne : 0 < length (drop sp s.stack) = not_none (drop sp s.stack) (omega (arith, g.pending.span, g.pending.whole)) in
          omega arith

      popped : Pending b th (grow b th s₀.places) (length s₀.places) (get_or s.stack sp 0 ∷ drop (suc sp) s.stack) (drop lo s.places)
          (take lo s.places) g.laid lo m
      popped = rw (drop-cons s.stack sp 0 in_stack₀) at g.pending

      pub top : Top th s₀ s sp lo m (get_or s.stack sp 0)
      top =
          let k : ℕ = get_or s.stack sp 0 in
          let ks : List ℕ = drop (suc sp) s.stack in
          let p = popped in
          let sm : k + sum ks ≡ length (drop lo s.places) = p.span in
          let le : length ks ≤ sum ks = some_most ks p.some.1 in
          let l : length ks ≡ length s.stack - suc sp = length-drop (suc sp) s.stack in
          let w : lo + length (drop lo s.places) ≡ length s₀.places = p.whole in
          let r : m + 2 * (k + sum ks) + 1 ≤ 2 * length s₀.places + suc (length ks) = p.room in
          let some : 0 < k = p.some.0 in
          let is = in_stack₀ in
          let same = g.same in
          let pos = room.threshold in
          let few = room.few in
          let rr = room.rows_room in
          let tr = room.temp_room in
          let sr = room.stack_room in
          let below : m < 2 * length s₀.places = omega arith in
          record {
            in_stack = is;
            some = some;
            in_places = omega (arith, same.places_same);
            few = omega arith;
            in_rows = omega (arith, same.rows_same);
            below = below;
            in_temp = omega (arith, same.temp_same);
            more = λ z. omega (arith, same.stack_same);
          }

      -- the table with the row of the segment's first j places
      abbrev pub leaf_row : ℕ → List ℕ
      leaf_row j =
          let ps = take j (drop lo s.places) in
          with_row m (record { box = b.box ps; head = lo; count = length ps }) s.rows

      pub leaf_turn : get_or s.stack sp 0 ≤ th → (j : ℕ) (rows' : List ℕ) → j ≡ get_or s.stack sp 0 → rows' ≡ leaf_row j
          → length rows' ≡ length s.rows
          → Going b th entries s₀ (record { places = s.places; temp = s.temp; stack = s.stack; rows = rows' })
          (sp + 1) (lo + get_or s.stack sp 0) (m + 1)
      leaf_turn z j rows' ej put lr =
          let k : ℕ = get_or s.stack sp 0 in
          let ps : List ℕ = take k (drop lo s.places) in
          let row : Row = record { box = b.box ps; head = lo; count = length ps } in
          let put' : rows' ≡ with_row m row s.rows = put ∙ ap leaf_row ej in
          let t = top in
          record {
            laid = g.laid ++ (row ∷ []);
            pending =
                rw (add-one sp, ← drop-drop k lo s.places, take-add lo k s.places, add-one m)
                (leaf_step b law th room.threshold (grow b th s₀.places) (length s₀.places) k (drop (suc sp) s.stack) (drop lo s.places)
                (take lo s.places) g.laid lo m popped z);
            written = rw (add-one m, put') (one_more m row s.rows g.laid t.in_rows g.written);
            deep = omega (arith, t.in_stack);
            same = record {
              places_same = g.same.places_same;
              temp_same = g.same.temp_same;
              stack_same = g.same.stack_same;
              rows_same = lr ∙ g.same.rows_same;
            };
            within = g.within;
          }

      pub inner_turn : th < get_or s.stack sp 0 → (j a : ℕ) (w temp' stack' rows' : List ℕ) → j ≡ get_or s.stack sp 0
          → InnerPut b m (take j (drop lo s.places)) w s.rows rows' a
          → length w ≡ length (take j (drop lo s.places)) → length temp' ≡ length s.temp → length rows' ≡ length s.rows
          → stack' ≡ set (set s.stack sp (get_or s.stack sp 0 - a)) (sp - 1) a
          → Going b th entries s₀ (record { places = put_mid lo j s.places w; temp = temp'; stack = stack'; rows = rows' }) (sp - 1) lo (m + 1)
      inner_turn z j a w temp' stack' rows' ej put lw lt lr est =
          let k : ℕ = get_or s.stack sp 0 in
          let t = top in
          let here : List ℕ = take j (drop lo s.places) in
          let behind : List ℕ = drop j (drop lo s.places) in
          let row : Row = record { box = b.box (take k (drop lo s.places)); head = 0; count = 0 } in
          let put' : rows' ≡ with_row m row s.rows = rw ej at put.row_put in
          let places' : List ℕ = put_mid lo j s.places w in
          let ahead : length (take lo s.places) ≡ lo = length-take-le lo s.places (omega (arith, t.in_places)) in
          let d₁ : drop lo places' ≡ w ++ behind = drop_at (take lo s.places) (w ++ behind) lo ahead in
          let t₁ : take lo places' ≡ take lo s.places = take_put lo j s.places w (omega (arith, t.in_places)) in
          let ea : a ≡ length (b.first (take k (drop lo s.places))) = rw ej at put.group_size in
          let waits : List ℕ = drop lo s.places in
          let er : w ++ behind ≡ (b.first (take k waits) ++ b.second (take k waits)) ++ drop k waits = rw (put.groups, ej) in
          let ls : length stack' ≡ length s.stack = rw est (simp length-set) in
          let held : Within (length entries) here =
          within_take (length entries) j (drop lo s.places) (within_drop (length entries) lo s.places g.within) in
          record {
            laid = g.laid ++ (row ∷ []);
            pending =
                rw (est, pushed s.stack sp a (k - a) (t.more z) t.in_stack, d₁, t₁, add-one m)
                (inner_step b law th room.threshold (grow b th s₀.places) (length s₀.places) k (drop (suc sp) s.stack) waits
                (take lo s.places) g.laid lo m popped a (w ++ behind) z ea er);
            written = rw (add-one m, put') (one_more m row s.rows g.laid t.in_rows g.written);
            deep = omega (arith, t.in_stack);
            same = record {
              places_same = same_len_mid lo j s.places w lw ∙ g.same.places_same;
              temp_same = lt ∙ g.same.temp_same;
              stack_same = ls ∙ g.same.stack_same;
              rows_same = lr ∙ g.same.rows_same;
            };
            within =
                within_append (length entries) (take lo s.places) (w ++ behind) (within_take (length entries) lo s.places g.within)
                (within_append (length entries) w behind
                (rw put.groups
                (within_append (length entries) (b.first here) (b.second here) (law.within_first (length entries) here held)
                (law.within_second (length entries) here held)))
                (within_drop (length entries) j (drop lo s.places) (within_drop (length entries) lo s.places g.within)));
          }
