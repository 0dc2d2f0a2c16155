-- What a build answers, and what its output buffers then hold. Definitions only.
use Rattle.std.specs.Prelude.{ℕ, ◌+◌, ◌-◌, ◌*◌, Bool, cond, ◌||◌, List, ◌++◌, length, nat_lt, Result, Ok, Err}
use Rattle.base.specs.Lists.{over}
use Rattle.entries.specs.declared.boxes.BoxWords.{BoxWords}
use Rattle.records.specs.declared.scale.Scale.{Scale}
use Rattle.records.specs.Scale.{scale_of_box}
use Rattle.bvh.specs.declared.slices.BuildRefusal.{BuildRefusal}
use Rattle.bvh.specs.declared.slices.BuildRefusal.TheVariants.{TooManyEntries, ThresholdOutside, BufferTooShort, TooManyNodes}
use Rattle.bvh.specs.declared.slices.BuiltTree.{BuiltTree}
use Rattle.bvh.specs.declared.slices.Lengths.{Lengths}
use Rattle.rows.specs.Tree.{Node, box_of, leaf_order, size}
use Rattle.growth.specs.Grow.{grow, builder}
use Rattle.rows.specs.Rows.{rows}
use Rattle.rows.specs.Ranges.{ranges, range_limit}
use Rattle.rows.specs.Output.{nodes_bytes, pad_bytes, capacity_of, trees_bytes, order_of}

-- What a build is of: the entries' number, the box at each place, and the places of the present ones.
pub record Entries : Type 0 where
  pub number : ℕ
  pub at : ℕ → BoxWords
  pub places : List ℕ

unfoldable pub tree_of : Entries → ℕ → Node
tree_of e th = grow (builder e.at) th e.places

-- Rule T2 (01, Tree build): cen, quantum and inverse of the box of all.
abbrev pub scale_in : Node → Scale
scale_in t = scale_of_box (box_of t).min (box_of t).max

-- 01, Build, 2: a buffer is too short.
abbrev pub short : ℕ → Lengths → Bool
short n l =
    nat_lt l.nodes (16 * (2 * n + 1)) || nat_lt l.trees (16 * (2 * n + 1)) || nat_lt l.order n
    || nat_lt l.entries (7 * n) || nat_lt l.places n || nat_lt l.temp n || nat_lt l.stack n || nat_lt l.rows (8 * (2 * n + 1))
    || nat_lt l.centres (4 * n)

-- the values of a build that is not refused, at a limit of nodes a range
abbrev pub built_by : ℕ → Entries → ℕ → Node → BuiltTree
built_by limit e th t =
    record {
      nodes = size t;
      capacity = capacity_of th e.number (size t);
      trees = length (ranges limit 0 t);
      present = length e.places;
      min = (box_of t).min;
      max = (box_of t).max;
      scale = scale_in t;
    }

-- and those at the limit of a build
abbrev pub built_of : Entries → ℕ → Node → BuiltTree
built_of e th t = built_by range_limit e th t

-- What a build answers: its tree's values, or why it is refused.
abbrev pub Build : Type 0
Build = Result BuiltTree BuildRefusal

-- Rule B1 (01, Build): the checks in the order written, at a limit of nodes a range.
unfoldable pub answer_by : ℕ → Entries → ℕ → Lengths → Build
unfolding tree_of
answer_by limit e th l =
    let n = e.number in
    let t = tree_of e th in
    cond (nat_lt 32767 n) (Err TooManyEntries)
    (cond (nat_lt th 1 || nat_lt 32767 th) (Err ThresholdOutside)
    (cond (short n l) (Err BufferTooShort)
    (cond (nat_lt 32767 (size t)) (Err TooManyNodes)
    (Ok (built_by limit e th t)))))

-- Rule B1, at the limit of a build.
abbrev pub answer_of : Entries → ℕ → Lengths → Build
answer_of e th l = answer_by range_limit e th l

-- 01's number for each reason
abbrev pub refusal_number : BuildRefusal → ℕ
refusal_number TooManyEntries = 1
refusal_number BufferTooShort = 2
refusal_number ThresholdOutside = 3
refusal_number TooManyNodes = 4

-- 01's number for each answer, 0 where it is not refused
abbrev pub number_of : Build → ℕ
number_of (Ok b) = 0
number_of (Err r) = refusal_number r

-- what a buffer holds at the end: on a refusal what it had
abbrev pub kept : Build → List ℕ → List ℕ → List ℕ
kept (Ok b) written before = over written before
kept (Err r) written before = before

-- Rules R10 to R12: the node records and the padding.
unfoldable pub nodes_written : Entries → ℕ → List ℕ
unfolding tree_of
nodes_written e th =
    let t = tree_of e th in
    nodes_bytes (scale_in t) th (leaf_order t) (rows 0 t) ++ pad_bytes (capacity_of th e.number (size t) - size t)

-- Rule R14, at any limit of nodes a range, and at that of a build.
unfoldable pub trees_written_by : ℕ → Entries → ℕ → List ℕ
unfolding tree_of
trees_written_by limit e th = trees_bytes (scale_in (tree_of e th)) (ranges limit 0 (tree_of e th))

abbrev pub trees_written : Entries → ℕ → List ℕ
trees_written e th = trees_written_by range_limit e th

-- Rule R13.
unfoldable pub order_written : Entries → ℕ → List ℕ
unfolding tree_of
order_written e th = order_of th e.places (leaf_order (tree_of e th))
