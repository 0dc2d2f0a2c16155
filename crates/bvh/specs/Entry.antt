-- What a build is of and what it leaves, as its entry point and its core say it. Definitions only.
use Rattle.std.specs.Prelude.{◌≡◌, ℕ, ◌+◌, ◌*◌, cond, ◌&&◌, List, length, nat_le}
use Rattle.std.specs.Prelude.{Float}
use Rattle.bvh.specs.declared.items.BvhItem.{BvhItem}
use Rattle.bvh.specs.declared.slices.Lengths.{Lengths}
use Rattle.bvh.specs.Build.{Build, Entries, answer_by, kept, nodes_written, trees_written_by, order_written}
use Rattle.entries.specs.Boxes.{box_from}
use Rattle.bvh.specs.Items.{box_in, present, marked}
use Rattle.rows.specs.Ranges.{range_limit}

-- the entries of a list of items
unfoldable pub entries_of : List BvhItem → Entries
entries_of items = record { number = length items; at = box_in items; places = present 0 items }

-- the n entries that words hold, seven each: a mark, then the box
unfoldable pub entries_in : ℕ → List ℕ → Entries
entries_in n ws = record { number = n; at = λ p. box_from ws (7 * p + 1); places = marked 0 n ws }

-- how many of n entries are taken apart into `room` words: all, or none where the build is refused before it reads one
abbrev pub taken_of : ℕ → ℕ → ℕ
taken_of n room = cond (nat_le n 32767 && nat_le (7 * n) room) n 0

-- The buffers that a build writes, as they are before it or after it.
pub record Outputs : Type 0 where
  pub nodes : List ℕ
  pub trees : List ℕ
  pub order : List ℕ

-- The other buffers that it is lent: the entries' words, and five parts of work.
pub record Lent : Type 0 where
  pub entries : List ℕ
  pub places : List ℕ
  pub temp : List ℕ
  pub stack : List ℕ
  pub rows : List ℕ
  pub centres : List Float

abbrev pub outputs : List ℕ → List ℕ → List ℕ → Outputs
outputs nodes trees order = record { nodes = nodes; trees = trees; order = order }

abbrev pub lent : List ℕ → List ℕ → List ℕ → List ℕ → List ℕ → List Float → Lent
lent entries places temp stack rows centres =
    record { entries = entries; places = places; temp = temp; stack = stack; rows = rows; centres = centres }

abbrev pub lengths_of : Outputs → Lent → Lengths
lengths_of o l =
    record {
      nodes = length o.nodes;
      trees = length o.trees;
      order = length o.order;
      entries = length l.entries;
      places = length l.places;
      temp = length l.temp;
      stack = length l.stack;
      rows = length l.rows;
      centres = length l.centres;
    }

-- Rule B2 (01, Build), at a limit of nodes a range: the answer, and the three outputs whole. Nothing is said of the work buffers.
pub record AnsweredBy (limit : ℕ) (e : Entries) (th : ℕ) (l : Lengths) (r : Build) (before after : Outputs) : Type 0 where
  pub answer : r ≡ answer_by limit e th l
  pub nodes_are : after.nodes ≡ kept r (nodes_written e th) before.nodes
  pub trees_are : after.trees ≡ kept r (trees_written_by limit e th) before.trees
  pub order_is : after.order ≡ kept r (order_written e th) before.order

-- Rule B2, at the limit of a build.
abbrev pub Answered : Entries → ℕ → Lengths → Build → Outputs → Outputs → Type 0
Answered e th l r before after = AnsweredBy range_limit e th l r before after
