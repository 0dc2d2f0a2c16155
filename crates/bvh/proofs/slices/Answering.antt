-- The answers of `slices::build_core`: which test refuses, and that a build which passes all of them is the definition's.
use Rattle.std.specs.Prelude.{◌≡◌, ℕ, ◌+◌, ◌*◌, ◌<◌, ◌≤◌, true, false, ltb, List, length, take, Ok, Err}
use native.Mathlib.Omega.{arith}
use mathlib.Core.Path.{refl, ap, ◌∙◌}
use borrow.Author.Tests.{lt-ltb, le-ltb, ltb-false}
use lib.Seq.{length-take-le}
use Rattle.entries.specs.Boxes.{box_at}
use Rattle.base.proofs.Truth.{neither}
use Rattle.bvh.specs.declared.slices.BuildRefusal.{BuildRefusal}
use Rattle.bvh.specs.declared.slices.BuildRefusal.TheVariants.{TooManyEntries, ThresholdOutside, BufferTooShort, TooManyNodes}
use Rattle.bvh.specs.declared.slices.BuiltTree.{BuiltTree}
use Rattle.bvh.specs.declared.slices.Lengths.{Lengths}
use Rattle.bvh.specs.declared.slices.Planted.{Planted}
use Rattle.bvh.specs.declared.slices.Task.{Task}
use Rattle.bvh.specs.Build.{Build, Entries, short, answer_by, tree_of}
use Rattle.bvh.specs.Entry.{Outputs, Lent, lent, entries_in, lengths_of, AnsweredBy}
use Rattle.bvh.specs.Items.{marked}
use Rattle.growth.specs.Grow.{builder, grow}
use Rattle.rows.specs.Tree.{size}
use Rattle.bvh.specs.Steps.Core.{WorkRoom, TreePlanted, Writable, Written}

-- ---- the buffers

-- none is too short
pub record Enough (n : ℕ) (o : Outputs) (l : Lent) : Type 0 where
  pub nodes_room : 16 * (2 * n + 1) ≤ length o.nodes
  pub trees_room : 16 * (2 * n + 1) ≤ length o.trees
  pub order_room : n ≤ length o.order
  pub entries_room : 7 * n ≤ length l.entries
  pub places_room : n ≤ length l.places
  pub temp_room : n ≤ length l.temp
  pub stack_room : n ≤ length l.stack
  pub rows_room : 8 * (2 * n + 1) ≤ length l.rows
  pub centres_room : 4 * n ≤ length l.centres

pub enough : (n : ℕ) (o : Outputs) (l : Lent) → short n (lengths_of o l) ≡ false → Enough n o l
enough n o l e =
    let e₈ = neither _ (ltb (length l.centres) (4 * n)) e in
    let e₇ = neither _ (ltb (length l.rows) (8 * (2 * n + 1))) e₈.0 in
    let e₆ = neither _ (ltb (length l.stack) n) e₇.0 in
    let e₅ = neither _ (ltb (length l.temp) n) e₆.0 in
    let e₄ = neither _ (ltb (length l.places) n) e₅.0 in
    let e₃ = neither _ (ltb (length l.entries) (7 * n)) e₄.0 in
    let e₂ = neither _ (ltb (length o.order) n) e₃.0 in
    let e₁ = neither (ltb (length o.nodes) (16 * (2 * n + 1))) (ltb (length o.trees) (16 * (2 * n + 1))) e₂.0 in
    record {
      nodes_room = ltb-false _ _ e₁.0;
      trees_room = ltb-false _ _ e₁.1;
      order_room = ltb-false _ _ e₂.1;
      entries_room = ltb-false _ _ e₃.1;
      places_room = ltb-false _ _ e₄.1;
      temp_room = ltb-false _ _ e₅.1;
      stack_room = ltb-false _ _ e₆.1;
      rows_room = ltb-false _ _ e₇.1;
      centres_room = ltb-false _ _ e₈.1;
    }

module _ (n th limit : ℕ) (o : Outputs) (l : Lent) (few : n ≤ 32767) (some : 1 ≤ th) (limited : 0 < limit) (room : Enough n o l) where
  abbrev task : Task
  task = record { n = n; threshold = th; limit = limit }

  abbrev listed : List ℕ
  listed = take (7 * n) l.entries

  entries_long : length listed ≡ 7 * n
  entries_long = length-take-le (7 * n) l.entries room.entries_room

  pub work_room : WorkRoom task (lent listed l.places l.temp l.stack l.rows l.centres)
  work_room =
      record {
        few = few;
        threshold = some;
        entries_are = entries_long;
        places_room = room.places_room;
        temp_room = room.temp_room;
        stack_room = room.stack_room;
        rows_room = room.rows_room;
        centres_room = room.centres_room;
      }

  pub writable : (p : Planted) (places' temp' rows' : List ℕ) → TreePlanted task listed places' rows' p → p.nodes ≤ 32767
      → length places' ≡ length l.places → length temp' ≡ length l.temp → length rows' ≡ length l.rows
      → Writable task p listed places' temp' rows' o
  writable p places' temp' rows' planted nodes_few kp kt kr =
      record {
        planted = planted;
        nodes_few = nodes_few;
        few = few;
        threshold = some;
        limit = limited;
        entries_are = entries_long;
        places_room = omega (arith, room.places_room);
        temp_room = omega (arith, room.temp_room);
        rows_room = omega (arith, room.rows_room);
        nodes_room = room.nodes_room;
        trees_room = room.trees_room;
        order_room = room.order_room;
      }

-- ---- the answers

-- a refusal leaves the outputs
refusal : (limit : ℕ) (e : Entries) (th : ℕ) (l : Lengths) (o : Outputs) (r : BuildRefusal) → Err r ≡ answer_by limit e th l
    → AnsweredBy limit e th l (Err r) o o
refusal limit e th l o r is = record { answer = is; nodes_are = refl; trees_are = refl; order_is = refl }

module _ (limit n th : ℕ) (ws : List ℕ) (l : Lengths) (o : Outputs) where
  abbrev e : Entries
  e = entries_in n ws

  pub too_many_entries : 32767 < n → AnsweredBy limit e th l (Err TooManyEntries) o o
  unfolding entries_in answer_by
  too_many_entries h = refusal limit e th l o TooManyEntries (rw (lt-ltb 32767 n h))

  pub threshold_below : n ≤ 32767 → th < 1 → AnsweredBy limit e th l (Err ThresholdOutside) o o
  unfolding entries_in answer_by
  threshold_below few h = refusal limit e th l o ThresholdOutside (rw (le-ltb 32767 n few, lt-ltb th 1 h))

  pub threshold_above : n ≤ 32767 → 1 ≤ th → 32767 < th → AnsweredBy limit e th l (Err ThresholdOutside) o o
  unfolding entries_in answer_by
  threshold_above few some h = refusal limit e th l o ThresholdOutside (rw (le-ltb 32767 n few, le-ltb th 1 some, lt-ltb 32767 th h))

  pub buffer_too_short : n ≤ 32767 → 1 ≤ th → th ≤ 32767 → short n l ≡ true → AnsweredBy limit e th l (Err BufferTooShort) o o
  unfolding entries_in answer_by
  buffer_too_short few some most h = refusal limit e th l o BufferTooShort (rw (le-ltb 32767 n few, le-ltb th 1 some, le-ltb 32767 th most, h))

  module _ (few : n ≤ 32767) (some : 1 ≤ th) (most : th ≤ 32767) (enough : short n l ≡ false) where
    abbrev nodes : ℕ
    nodes = size (grow (builder (box_at ws)) th (marked 0 n ws))

    pub too_many_nodes : 32767 < nodes → AnsweredBy limit e th l (Err TooManyNodes) o o
    unfolding entries_in answer_by tree_of
    too_many_nodes h =
        refusal limit e th l o TooManyNodes (rw (le-ltb 32767 n few, le-ltb th 1 some, le-ltb 32767 th most, enough, lt-ltb 32767 nodes h))

    pub built : nodes ≤ 32767 → (b : BuiltTree) (o' : Outputs) → Written limit e th b o o' → AnsweredBy limit e th l (Ok b) o o'
    unfolding entries_in answer_by tree_of
    built h b o' w =
        record {
          answer =
              ap {B = Build} (λ (x : BuiltTree). Ok x) w.built
              ∙ rw (le-ltb 32767 n few, le-ltb th 1 some, le-ltb 32767 th most, enough, le-ltb 32767 nodes h);
          nodes_are = w.nodes_are;
          trees_are = w.trees_are;
          order_is = w.order_is;
        }
