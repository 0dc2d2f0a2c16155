-- What each step of shaping a geometry asks and gives, over plain lists.
use Prim.Native.Nat.{ℕ, ◌*◌, ◌≤◌}
use native.Mathlib.Omega.{arith}
use mathlib.Core.Bool.{Bool, cond}
use mathlib.Core.List.{List, []}
use mathlib.Core.Path.{◌≡◌, refl, sym, ap, ◌∙◌}
use lib.Dec.{eqb}
use lib.Ieee.{Float}
use lib.ListN.{length, take}
use lib.Seq.{take_all, length-take-le}
use borrow.Author.Tests.{eq-eqb, ne_eqb}
use Rattle.base.specs.Lists.{over}
use Rattle.corners.proofs.CornerLaws.{length_corners}
use Rattle.sides.specs.Links.{links_of}
use Rattle.finishing.specs.Stored.{stored_bytes, floats_of}
use Rattle.geometry_hull.specs.Steps.Hulls.{ShrinkRoom, HullRoom, HullLeft}
use Rattle.geometry_hull.proofs.HullLaws.{of_points}
use Rattle.linking.specs.Steps.Linking as Linking
use Rattle.math.specs.declared.vec3.Vec3.{Vec3}
use Rattle.meshes.specs.declared.Bound.{Bound}
use Rattle.meshes.specs.Meshes.{geometry_of}
use Rattle.octants.specs.declared.lists.OctantCounts.{OctantCounts}
use Rattle.octants.specs.Octants.{counts_of}
use Rattle.prepared.specs.Answers.{Hull, geometry_work}
use Rattle.prepared.specs.Shrunk.{shrunk_points, shrunk_bytes, shrunk_floats, shrunk_octant, octants_left}
use Rattle.prepared.specs.Steps.Shapes.{GeometryRoom, GeometryShaped}
use Rattle.rings.specs.Meshes.{mesh_of}
use Rattle.rings.proofs.LinkedLaws.{links_serve}
use Rattle.shadows.specs.Octants.{octant_of}
use Rattle.shrinking.specs.Whole.{shrunk_of}

pub linkable : {p v : ℕ} {polygons vertices out entries places temp stack rows points : List ℕ} {h : Hull} {centres olds news : List Float}
    → GeometryRoom p v polygons vertices out h (geometry_work entries places temp stack rows points centres olds news)
    → Linking.LinkRoom p polygons out entries places temp stack rows
linkable g =
    record {
      few = g.few;
      records = g.records;
      for_out = g.for_out;
      for_corners = omega (arith, g.for_entries);
      for_keys = omega (arith, g.for_places);
      for_sides = omega (arith, g.for_temp);
      for_spare = omega (arith, g.for_stack);
      for_links = omega (arith, g.for_rows);
    }

module _ (p v : ℕ) (polygons out₀ out entries rows : List ℕ) (m : Linking.Meshed p polygons out₀ out entries rows) where
  size : length (take (3 * p) entries) ≡ 3 * p
  size = ap length m.corners_are ∙ length_corners p polygons

  pub shapeable : {vertices entries₀ places₀ temp₀ stack₀ rows₀ points : List ℕ} {h : Hull} {centres olds news : List Float}
      → GeometryRoom p v polygons vertices out₀ h (geometry_work entries₀ places₀ temp₀ stack₀ rows₀ points centres olds news)
      → (places temp stack : List ℕ) → length entries ≡ length entries₀ → length places ≡ length places₀ → length temp ≡ length temp₀
      → length stack ≡ length stack₀ → length rows ≡ length rows₀
      → (ShrinkRoom p v vertices entries places temp rows (take (3 * v) points) centres olds news)
      × (HullRoom v h entries places temp stack rows (take (3 * v) points))
  shapeable {points = points} g places temp stack e k t s r =
      let links_in : 3 * p ≤ length rows = omega (arith, r, g.for_rows) in
      let long : length (take (3 * p) rows) ≡ 3 * p = length-take-le (3 * p) rows links_in in
      let just : length (take (3 * v) points) ≡ 3 * v = length-take-le (3 * v) points g.for_points in
      let again =
      ap (λ (n : ℕ). take n (take (3 * p) rows)) size
      ∙ take_all (3 * p) (take (3 * p) rows) (omega (arith, long))
      ∙ m.links_are
      ∙ ap links_of (sym m.corners_are) in (
        record {
          few = g.few;
          few_vertices = g.few_vertices;
          linked = links_serve (take (3 * p) entries) p size (take (3 * p) rows) (omega (arith, g.few)) (omega (arith, long)) again;
          corners_in = omega (arith, e, g.for_entries);
          links_in = links_in;
          words = g.words;
          tri_room = omega (arith, k, g.for_places);
          firsts_room = omega (arith, t, g.for_temp);
          normals_room = omega (arith, g.for_centres);
          olds_room = g.for_olds;
          news_room = g.for_news;
          size = just;
        },
        record {
          few_vertices = g.few_vertices;
          points_in = omega (arith, just);
          for_shrunk = g.for_shrunk;
          for_floats = g.for_floats;
          for_octants = g.for_octants;
          for_rows = omega (arith, e, g.for_entries);
          for_keys = omega (arith, k, g.for_places);
          for_order = omega (arith, t, g.for_temp);
          for_temp = omega (arith, s, g.for_stack);
          for_marks = omega (arith, r, g.for_rows);
        },
      )

  module _ (b : Bound) (quantum : Vec3) (vertices : List ℕ) where
    abbrev points_are : List ℕ
    points_are = shrunk_points b p v polygons vertices

    abbrev shaped_to : Hull → Hull → OctantCounts → Type 0
    shaped_to h h' r = GeometryShaped b p v quantum polygons vertices out₀ out h h' r

    -- the points are those of the mesh of the records
    of_mesh : shrunk_of (geometry_of b) (mesh_of (take (3 * p) entries) (take (3 * p) rows) p vertices v) ≡ points_are
    unfolding shrunk_points
    of_mesh = λ i. shrunk_of (geometry_of b) (mesh_of (m.corners_are i) (m.links_are i) p vertices v)

    module _ (t : Bool) (e : eqb v 0 ≡ t) where
      bytes : shrunk_bytes b p v quantum polygons vertices ≡ cond t [] (stored_bytes quantum points_are v)
      unfolding shrunk_bytes
      bytes = ap (λ (x : Bool). cond x [] (stored_bytes quantum points_are v)) e

      floats : shrunk_floats b p v quantum polygons vertices ≡ cond t [] (floats_of quantum points_are v)
      unfolding shrunk_floats
      floats = ap (λ (x : Bool). cond x [] (floats_of quantum points_are v)) e

      octant : (o : ℕ) → shrunk_octant b p v polygons vertices o ≡ cond t [] (octant_of o points_are v)
      unfolding shrunk_octant
      octant o = ap (λ (x : Bool). cond x [] (octant_of o points_are v)) e

    pub shaped : (v ≡ 0 → ⊥) → (h h' : Hull) (r : OctantCounts)
        → HullLeft quantum v (shrunk_of (geometry_of b) (mesh_of (take (3 * p) entries) (take (3 * p) rows) p vertices v)) h h' r → shaped_to h h' r
    shaped some h h' r l₀ =
        let l : HullLeft quantum v points_are h h' r = of_points _ _ l₀ of_mesh in
        let e = ne_eqb v 0 some in
        let lists : (λ (o : ℕ). octant_of o points_are v) ≡ shrunk_octant b p v polygons vertices = λ i o. sym (octant _ e o) i in
        record {
          records_are = m.records_are;
          shrunk_are = l.shrunk_are ∙ ap (λ (x : List ℕ). over x h.shrunk) (sym (bytes _ e));
          floats_are = l.floats_are ∙ ap (λ (x : List ℕ). over x h.floats) (sym (floats _ e));
          octants_are = l.octants_are ∙ ap (λ (x : ℕ → List ℕ). octants_left x v h.octants) lists;
          counts_are = l.counts_are ∙ ap counts_of lists;
        }

    -- ---- without vertices

    abbrev pub zeros : OctantCounts
    zeros = record { c0 = 0; c1 = 0; c2 = 0; c3 = 0; c4 = 0; c5 = 0; c6 = 0; c7 = 0 }

    none_left : (before : List ℕ) → before ≡ octants_left (λ (o : ℕ). []) 0 before
    unfolding octants_left
    none_left before = refl

    none_counted : zeros ≡ counts_of (λ (o : ℕ). [])
    unfolding counts_of
    none_counted = refl

    pub empty : v ≡ 0 → (h : Hull) → shaped_to h h zeros
    empty z h =
        let e = eq-eqb v 0 z in
        let lists : (λ (o : ℕ). []) ≡ shrunk_octant b p v polygons vertices = λ i o. sym (octant _ e o) i in
        record {
          records_are = m.records_are;
          shrunk_are = ap (λ (x : List ℕ). over x h.shrunk) (sym (bytes _ e));
          floats_are = ap (λ (x : List ℕ). over x h.floats) (sym (floats _ e));
          octants_are = none_left h.octants ∙ (λ i. octants_left (lists i) (sym z i) h.octants);
          counts_are = none_counted ∙ ap counts_of lists;
        }
