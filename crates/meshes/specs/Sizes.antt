-- How long the buffers must be, by the numbers of polygons, vertices and materials alone: the same for both kinds. Definitions only.
use Rattle.std.specs.Prelude.{ℕ, ◌+◌, ◌*◌, Bool, ◌||◌, ltb}
use Rattle.meshes.specs.declared.Counts.{Counts}
use Rattle.meshes.specs.declared.Lengths.{Lengths}

-- Rule K5 (01, Prepare, 2): 16 bytes a polygon, a byte for its material's number, two words a material, three a vertex
abbrev pub inputs_short : Counts → Lengths → Bool
inputs_short c l =
    ltb l.polygons (16 * c.polygons) || ltb l.numbers c.polygons || ltb l.mats (2 * c.materials) || ltb l.vertices (3 * c.vertices)

-- Rule K5 (01: 2,048 bytes for the material list, 1 byte a material index, 16 a polygon; for vertices 6 bytes each for the i16 triples and 12 each for
-- the floats)
abbrev pub lists_short : Counts → Lengths → Bool
lists_short c l =
    ltb l.list 2048 || ltb l.indices c.polygons || ltb l.polygons_out (16 * c.polygons) || ltb l.stored (6 * c.vertices)
    || ltb l.floats (3 * c.vertices)

-- Rule K5 (01: for shrunk vertices the same, and 4 · vertices for each of the eight octant lists)
abbrev pub hull_short : Counts → Lengths → Bool
hull_short c l = ltb l.shrunk (6 * c.vertices) || ltb l.shrunk_floats (3 * c.vertices) || ltb l.octants (8 * c.vertices)

-- Rule K5 (01: "the tree's buffers as under Build with polygons for entries")
abbrev pub tree_short : Counts → Lengths → Bool
tree_short c l =
    ltb l.node_bytes (16 * (2 * c.polygons + 1)) || ltb l.tree_bytes (16 * (2 * c.polygons + 1)) || ltb l.order c.polygons

-- Rule K5: ten parts to work in; what each is for stands in docs/PREPARE.md.
abbrev pub words_short : Counts → Lengths → Bool
words_short c l =
    ltb l.entries (7 * c.polygons + 4 * c.vertices) || ltb l.places (3 * c.polygons + 3 * c.vertices)
    || ltb l.temp (3 * c.polygons + c.vertices) || ltb l.stack (3 * c.polygons + c.vertices)
    || ltb l.rows (16 * c.polygons + 8 + c.vertices)

abbrev pub floats_short : Counts → Lengths → Bool
floats_short c l =
    ltb l.points (3 * c.vertices) || ltb l.sorted c.polygons || ltb l.centres (4 * c.polygons) || ltb l.olds (9 * c.polygons)
    || ltb l.news (9 * c.polygons)

unfoldable pub short : Counts → Lengths → Bool
short c l = inputs_short c l || lists_short c l || hull_short c l || tree_short c l || words_short c l || floats_short c l

-- Words to work in, all parts together; the bytes of `sorted` as words too.
abbrev pub work_words : ℕ → ℕ → ℕ
work_words p v =
    (7 * p + 4 * v) + (3 * p + 3 * v) + (3 * p + v) + (3 * p + v) + (16 * p + 8 + v) + 3 * v + p + 4 * p + 9 * p + 9 * p
