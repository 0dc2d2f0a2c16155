-- Rule K4 (01, Prepare): what is turned down before a tree is built, and in what order. Definitions only.
use Rattle.std.specs.Prelude.{ℕ, List, Bool, cond, ◌&&◌, ◌||◌, eqb, ltb, length, Result, Ok, Err, ⊤}
use Rattle.corners.specs.Corners.{kinds_known}
use Rattle.materials.specs.Materials.{list_of}
use Rattle.shrinking.specs.Whole.{infinite_start}
use Rattle.meshes.specs.declared.Bound.{Bound}
use Rattle.meshes.specs.declared.Counts.{Counts}
use Rattle.meshes.specs.declared.kind.Kind.{Kind}
use Rattle.meshes.specs.declared.kind.Kind.TheVariants.{Geometry, Bvh}
use Rattle.meshes.specs.declared.Lengths.{Lengths}
use Rattle.meshes.specs.declared.PrepareRefusal.{PrepareRefusal}
use Rattle.meshes.specs.declared.PrepareRefusal.TheVariants.{UnknownKind, TooMany, BufferTooShort, UnknownPolygon}
use Rattle.meshes.specs.declared.PrepareRefusal.TheVariants.{TooManyMaterials, InfiniteMargin, TooManyNodes}
use Rattle.meshes.specs.Meshes.{Mesh, materials_of, geometry_of}
use Rattle.meshes.specs.Sizes.{short}

-- 01, Prepare, 6: kind 4, a geometry, or kind 8, one with a tree
abbrev pub is_geometry : ℕ → Bool
is_geometry kind = eqb kind 4

abbrev pub is_bvh : ℕ → Bool
is_bvh kind = eqb kind 8

abbrev pub kind_of : ℕ → Result Kind PrepareRefusal
kind_of number = cond (is_geometry number) (Ok Geometry) (cond (is_bvh number) (Ok Bvh) (Err UnknownKind))

-- 01, Prepare, 1: over 32,767 polygons, 256 materials or 32,768 vertices
abbrev pub many : Counts → Bool
many c = ltb 32767 c.polygons || ltb 256 c.materials || ltb 32768 c.vertices

-- 01, Prepare, 8: the list built of the polygons' materials has 256 or more.
abbrev pub full : List ℕ → Bool
full ms = ltb 255 (length (list_of ms))

-- 01, Prepare, 7: kind 4 with vertices, and the starting margin is +infinity.
abbrev pub endless : Bound → ℕ → Bool
endless b v = is_geometry b.kind && (ltb 0 v && infinite_start (geometry_of b))

-- Rule K4: what is read of the mesh: the kinds of its records, its materials ms, and the margin.
unfoldable pub check_within : Bound → Counts → List ℕ → List ℕ → Result ⊤ PrepareRefusal
unfolding infinite_start
check_within b c polygons ms =
    cond (kinds_known c.polygons polygons)
    (cond (full ms) (Err TooManyMaterials)
    (cond (endless b c.vertices) (Err InfiniteMargin) (Ok tt)))
    (Err UnknownPolygon)

-- Rule K4: the checks in the order written; a record of kind 5, 6 or 7 is looked for directly after 2.
unfoldable pub check_in : Bound → Counts → Lengths → List ℕ → List ℕ → Result ⊤ PrepareRefusal
unfolding check_within short
check_in b c l polygons ms =
    cond (is_geometry b.kind || is_bvh b.kind)
    (cond (many c) (Err TooMany) (cond (short c l) (Err BufferTooShort) (check_within b c polygons ms)))
    (Err UnknownKind)

-- Each of the two entry points prepares one kind: the other's is refused with 6.
unfoldable pub geometry_check : Bound → Counts → Lengths → List ℕ → List ℕ → Result ⊤ PrepareRefusal
unfolding check_in
geometry_check b c l polygons ms = cond (is_bvh b.kind) (Err UnknownKind) (check_in b c l polygons ms)

unfoldable pub bvh_check : Bound → Counts → Lengths → List ℕ → List ℕ → Result ⊤ PrepareRefusal
unfolding check_in
bvh_check b c l polygons ms = cond (is_geometry b.kind) (Err UnknownKind) (check_in b c l polygons ms)

abbrev pub check_as : Kind → Bound → Counts → Lengths → List ℕ → List ℕ → Result ⊤ PrepareRefusal
check_as Geometry b c l polygons ms = geometry_check b c l polygons ms
check_as Bvh b c l polygons ms = bvh_check b c l polygons ms

abbrev pub check_of : Mesh → Lengths → Result ⊤ PrepareRefusal
check_of g l = check_in g.bound g.counts l g.polygons (materials_of g)

-- 01's number for each reason
abbrev pub refusal_number : PrepareRefusal → ℕ
refusal_number UnknownKind = 6
refusal_number TooMany = 1
refusal_number BufferTooShort = 2
refusal_number UnknownPolygon = 6
refusal_number TooManyMaterials = 8
refusal_number InfiniteMargin = 7
refusal_number TooManyNodes = 4
