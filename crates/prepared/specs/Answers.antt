-- What preparing a mesh answers, and what every buffer then holds (01, Prepare). Definitions only.
use Rattle.bvh.specs.Build.{Build}
use Rattle.std.specs.Prelude.{◌≡◌, ℕ, cond, List, length, ◌==◌, Ok, Err, Result, ⊤, Float}
use Rattle.base.specs.Lists.{over}
use Rattle.bvh.specs.Entry.{Outputs}
use Rattle.meshes.specs.declared.BvhLengths.{BvhLengths}
use Rattle.meshes.specs.declared.GeometryLengths.{GeometryLengths}
use Rattle.meshes.specs.declared.Lengths.{Lengths}
use Rattle.meshes.specs.declared.PrepareRefusal.{PrepareRefusal}
use Rattle.meshes.specs.declared.PrepareRefusal.TheVariants.{UnknownKind, TooManyNodes}
use Rattle.meshes.specs.Checks.{is_geometry, is_bvh, check_in, check_of, refusal_number}
use Rattle.meshes.specs.Meshes.{Mesh}
use Rattle.octants.specs.Octants.{counts_of}
use Rattle.rebuild.specs.Rebuilding.{tree_answer, tree_answer_by}
use Rattle.prepared.specs.declared.Prepared.{Prepared}
use Rattle.prepared.specs.declared.Prepared.TheVariants.{Geometry, Bvh, Empty}
use Rattle.prepared.specs.declared.Values.{Values}
use Rattle.prepared.specs.Prepared.{prepared_of}
use Rattle.prepared.specs.Rebuilt.{entries_of8}
use Rattle.prepared.specs.Shrunk.{octants_left}

-- ---- the answer

-- Rule K4 (01, Prepare, 4): a tree of over 32,767 nodes is the last that is refused.
abbrev pub with_tree : Values → Build → Result Prepared PrepareRefusal
with_tree values (Ok t) = Ok (Bvh values t)
with_tree values (Err why) = Err TooManyNodes

abbrev pub answer_after : Mesh → Result ⊤ PrepareRefusal → Result Prepared PrepareRefusal
answer_after g (Err why) = Err why
answer_after g (Ok passed) =
    cond (is_geometry g.bound.kind) (Ok (Geometry (prepared_of g).values (counts_of (prepared_of g).octants)))
    (cond (g.counts.polygons == 0) (Ok (Empty (prepared_of g).values))
    (with_tree (prepared_of g).values (tree_answer (entries_of8 g.bound g.counts.polygons g.counts.vertices g.polygons g.vertices))))

-- Rule K4: what preparing a mesh answers, in buffers of these lengths.
unfoldable pub answer_of : Mesh → Lengths → Result Prepared PrepareRefusal
unfolding check_in prepared_of entries_of8 tree_answer_by
answer_of g l = answer_after g (check_of g l)

-- 01's number for each answer, 0 where it is not refused
abbrev pub number_of : Result Prepared PrepareRefusal → ℕ
number_of (Ok made) = 0
number_of (Err why) = refusal_number why

-- ---- the buffers

-- those that both kinds write, and those that kind 4 writes; those that kind 8 writes are a build's `Outputs`
pub record Lists : Type 0 where
  pub list : List ℕ
  pub indices : List ℕ
  pub polygons : List ℕ
  pub stored : List ℕ
  pub floats : List ℕ

abbrev pub lists : List ℕ → List ℕ → List ℕ → List ℕ → List ℕ → Lists
lists list indices polygons stored floats = record { list = list; indices = indices; polygons = polygons; stored = stored; floats = floats }

pub record Hull : Type 0 where
  pub shrunk : List ℕ
  pub floats : List ℕ
  pub octants : List ℕ

abbrev pub hull : List ℕ → List ℕ → List ℕ → Hull
hull shrunk floats octants = record { shrunk = shrunk; floats = floats; octants = octants }

-- what a buffer holds at the end: on a refusal what it had
abbrev pub kept : Result Prepared PrepareRefusal → List ℕ → List ℕ → List ℕ
kept (Ok made) written before = over written before
kept (Err why) written before = before

abbrev pub kept_octants : Result Prepared PrepareRefusal → (ℕ → List ℕ) → ℕ → List ℕ → List ℕ
kept_octants (Ok made) list v before = octants_left list v before
kept_octants (Err why) list v before = before

-- Every byte of the lists, once preparing has answered r.
pub record ListsKept (g : Mesh) (r : Result Prepared PrepareRefusal) (before after : Lists) : Type 0 where
  pub list_is : after.list ≡ kept r (prepared_of g).list before.list
  pub indices_are : after.indices ≡ kept r (prepared_of g).indices before.indices
  pub polygons_are : after.polygons ≡ kept r (prepared_of g).polygons before.polygons
  pub stored_are : after.stored ≡ kept r (prepared_of g).stored before.stored
  pub floats_are : after.floats ≡ kept r (prepared_of g).floats before.floats

pub record HullKept (g : Mesh) (r : Result Prepared PrepareRefusal) (before after : Hull) : Type 0 where
  pub shrunk_are : after.shrunk ≡ kept r (prepared_of g).shrunk before.shrunk
  pub floats_are : after.floats ≡ kept r (prepared_of g).shrunk_floats before.floats
  pub octants_are : after.octants ≡ kept_octants r (prepared_of g).octants g.counts.vertices before.octants

pub record TreeKept (g : Mesh) (r : Result Prepared PrepareRefusal) (before after : Outputs) : Type 0 where
  pub nodes_are : after.nodes ≡ kept r (prepared_of g).nodes before.nodes
  pub trees_are : after.trees ≡ kept r (prepared_of g).trees before.trees
  pub order_is : after.order ≡ kept r (prepared_of g).order before.order

-- Rule K4, whole: the answer, and every output.
pub record Answered (g : Mesh) (l : Lengths) (r : Result Prepared PrepareRefusal) (b b' : Lists) (h h' : Hull) (t t' : Outputs) : Type 0 where
  pub answer : r ≡ answer_of g l
  pub lists_are : ListsKept g r b b'
  pub hull_is : HullKept g r h h'
  pub tree_is : TreeKept g r t t'

-- ---- the two entry points

-- Kind 8 is not for `prepare_geometry`, nor kind 4 for `prepare_bvh`: each refuses the other's with 6.
abbrev pub geometry_answer : Mesh → Lengths → Result Prepared PrepareRefusal
geometry_answer g l = cond (is_bvh g.bound.kind) (Err UnknownKind) (answer_of g l)

abbrev pub bvh_answer : Mesh → Lengths → Result Prepared PrepareRefusal
bvh_answer g l = cond (is_geometry g.bound.kind) (Err UnknownKind) (answer_of g l)

-- What `prepare_geometry` is lent besides its outputs.
pub record GeometryWork : Type 0 where
  pub entries : List ℕ
  pub places : List ℕ
  pub temp : List ℕ
  pub stack : List ℕ
  pub rows : List ℕ
  pub points : List ℕ
  pub centres : List Float
  pub olds : List Float
  pub news : List Float

abbrev pub geometry_work : List ℕ → List ℕ → List ℕ → List ℕ → List ℕ → List ℕ → List Float → List Float → List Float → GeometryWork
geometry_work entries places temp stack rows points centres olds news =
    record {
      entries = entries;
      places = places;
      temp = temp;
      stack = stack;
      rows = rows;
      points = points;
      centres = centres;
      olds = olds;
      news = news;
    }

pub record BvhWork : Type 0 where
  pub entries : List ℕ
  pub places : List ℕ
  pub temp : List ℕ
  pub stack : List ℕ
  pub rows : List ℕ
  pub points : List ℕ
  pub sorted : List ℕ
  pub centres : List Float

abbrev pub bvh_work : List ℕ → List ℕ → List ℕ → List ℕ → List ℕ → List ℕ → List ℕ → List Float → BvhWork
bvh_work entries places temp stack rows points sorted centres =
    record {
      entries = entries;
      places = places;
      temp = temp;
      stack = stack;
      rows = rows;
      points = points;
      sorted = sorted;
      centres = centres;
    }

-- the lengths of all buffers, of those that are not lent as they are told
abbrev pub geometry_lengths : Mesh → Lists → Hull → GeometryWork → BvhLengths → Lengths
geometry_lengths g b h w others =
    record {
      polygons = length g.polygons;
      numbers = length g.numbers;
      mats = length g.mats;
      vertices = length g.vertices;
      list = length b.list;
      indices = length b.indices;
      polygons_out = length b.polygons;
      stored = length b.stored;
      floats = length b.floats;
      shrunk = length h.shrunk;
      shrunk_floats = length h.floats;
      octants = length h.octants;
      node_bytes = others.node_bytes;
      tree_bytes = others.tree_bytes;
      order = others.order;
      entries = length w.entries;
      places = length w.places;
      temp = length w.temp;
      stack = length w.stack;
      rows = length w.rows;
      points = length w.points;
      sorted = others.sorted;
      centres = length w.centres;
      olds = length w.olds;
      news = length w.news;
    }

abbrev pub bvh_lengths : Mesh → Lists → Outputs → BvhWork → GeometryLengths → Lengths
bvh_lengths g b t w others =
    record {
      polygons = length g.polygons;
      numbers = length g.numbers;
      mats = length g.mats;
      vertices = length g.vertices;
      list = length b.list;
      indices = length b.indices;
      polygons_out = length b.polygons;
      stored = length b.stored;
      floats = length b.floats;
      shrunk = others.shrunk;
      shrunk_floats = others.shrunk_floats;
      octants = others.octants;
      node_bytes = length t.nodes;
      tree_bytes = length t.trees;
      order = length t.order;
      entries = length w.entries;
      places = length w.places;
      temp = length w.temp;
      stack = length w.stack;
      rows = length w.rows;
      points = length w.points;
      sorted = length w.sorted;
      centres = length w.centres;
      olds = others.olds;
      news = others.news;
    }

-- Rule K4, of `prepare_geometry`: what is not lent cannot change.
pub record GeometryAnswered (g : Mesh) (l : Lengths) (r : Result Prepared PrepareRefusal) (b b' : Lists) (h h' : Hull) : Type 0 where
  pub answer : r ≡ geometry_answer g l
  pub lists_are : ListsKept g r b b'
  pub hull_is : HullKept g r h h'

-- Rule K4, of `prepare_bvh`.
pub record BvhAnswered (g : Mesh) (l : Lengths) (r : Result Prepared PrepareRefusal) (b b' : Lists) (t t' : Outputs) : Type 0 where
  pub answer : r ≡ bvh_answer g l
  pub lists_are : ListsKept g r b b'
  pub tree_is : TreeKept g r t t'
