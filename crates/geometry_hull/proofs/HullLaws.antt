-- What each step from a linked mesh to its hull asks and gives, over plain lists.
use Prim.Native.Nat.{ℕ, ◌*◌}
use native.Mathlib.Omega.{arith}
use mathlib.Core.List.{List}
use mathlib.Core.Path.{◌≡◌, ap, subst, ◌∙◌}
use lib.Ieee.{Float}
use lib.ListN.{length, take}
use Rattle.std.specs.Prelude.{Option}
use Rattle.finishing.specs.Steps.Finishing.{Stored}
use Rattle.math.specs.declared.vec3.Vec3.{Vec3}
use Rattle.octants.specs.declared.lists.OctantCounts.{OctantCounts}
use Rattle.octants.specs.Octants.{Wrote}
use Rattle.prepared.specs.Answers.{Hull, hull}
use Rattle.prepared.specs.Shrunk.{octants_left}
use Rattle.rings.specs.Meshes.{Mesh, mesh_of}
use Rattle.shrinking.specs.declared.whole.Geometry.{Geometry}
use Rattle.shrinking.specs.Whole.{shrunk_of, ShrunkTo}
use Rattle.shrinking.specs.Steps.Work as Work
use Rattle.geometry_hull.specs.Steps.Hulls.{ShrinkRoom, HullRoom, HullLeft}

-- ---- shrinking

pub shrinkable : {p v : ℕ} {vertices entries places temp rows points : List ℕ} {centres olds news : List Float}
    → ShrinkRoom p v vertices entries places temp rows points centres olds news
    → Work.Meshed (mesh_of (take (3 * p) entries) (take (3 * p) rows) p vertices v) places temp centres olds news points
shrinkable r =
    record {
      linked = r.linked;
      vertices_in = r.words;
      few_vertices = r.few_vertices;
      tri_room = r.tri_room;
      firsts_room = r.firsts_room;
      normals_room = r.normals_room;
      olds_room = r.olds_room;
      news_room = r.news_room;
      size = r.size;
    }

pub by_geometry : (g g' : Geometry) (mesh : Mesh) (points : List ℕ) (r : Option Float) → ShrunkTo g mesh points r → g ≡ g' → points ≡ shrunk_of g' mesh
by_geometry g g' mesh points r s e = s.points_are ∙ ap (λ (x : Geometry). shrunk_of x mesh) e

-- ---- listing and storing

pub left : (quantum : Vec3) (v : ℕ) (ws shrunk₀ shrunk floats₀ floats octants₀ octants : List ℕ) (r : OctantCounts)
    → Wrote v ws octants₀ octants r → Stored quantum ws v shrunk₀ shrunk floats₀ floats
    → HullLeft quantum v ws (hull shrunk₀ floats₀ octants₀) (hull shrunk floats octants) r
unfolding octants_left
left quantum v ws shrunk₀ shrunk floats₀ floats octants₀ octants r w s =
    record { shrunk_are = s.stored_are; floats_are = s.floats_are; octants_are = w.lists_are; counts_are = w.counts }

-- what is left of the room once the vertices are shrunk
pub after_shrinking : {v : ℕ} {h : Hull} {entries places temp stack rows points : List ℕ} → HullRoom v h entries places temp stack rows points
    → (places' temp' points' : List ℕ) → length places' ≡ length places → length temp' ≡ length temp → length points' ≡ length points
    → HullRoom v h entries places' temp' stack rows points'
after_shrinking r places' temp' points' p t w =
    record {
      few_vertices = r.few_vertices;
      points_in = omega (arith, w, r.points_in);
      for_shrunk = r.for_shrunk;
      for_floats = r.for_floats;
      for_octants = r.for_octants;
      for_rows = r.for_rows;
      for_keys = omega (arith, p, r.for_keys);
      for_order = omega (arith, t, r.for_order);
      for_temp = r.for_temp;
      for_marks = r.for_marks;
    }

pub of_points : {quantum : Vec3} {v : ℕ} {h h' : Hull} {r : OctantCounts} (ws ws' : List ℕ) → HullLeft quantum v ws h h' r → ws ≡ ws'
    → HullLeft quantum v ws' h h' r
of_points {quantum} {v} {h} {h'} {r} ws ws' l e = subst (λ (x : List ℕ). HullLeft quantum v x h h' r) e l
