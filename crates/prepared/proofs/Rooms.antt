-- The room that there is for each part of prepare once the checks have passed. Assumes nothing.
use Rattle.std.specs.Prelude.{◌≡◌, ℕ, List, length}
use Rattle.bvh.specs.Entry.{Outputs}
use Rattle.finishing.specs.Steps.Finishing.{StoreRoom, ListRoom}
use Rattle.meshes.specs.declared.BvhLengths.{BvhLengths}
use Rattle.meshes.specs.declared.GeometryLengths.{GeometryLengths}
use Rattle.meshes.specs.Meshes.{Mesh, materials_of}
use Rattle.meshes.proofs.CheckLaws.{Sound}
use Rattle.prepared.specs.Answers.{Lists, Hull, GeometryWork, BvhWork, geometry_lengths, bvh_lengths}
use Rattle.prepared.specs.Steps.Shapes.{GeometryRoom, BvhRoom}

module _ (g : Mesh) (b : Lists) (h : Hull) (w : GeometryWork) (others : BvhLengths)
    (s : Sound g.bound g.counts (geometry_lengths g b h w others) g.polygons (materials_of g)) where
  pub geometry_room : GeometryRoom g.counts.polygons g.counts.vertices g.polygons g.vertices b.polygons h w
  geometry_room =
      let e = s.enough in
      record {
        few = s.few.polygons_few;
        few_vertices = s.few.vertices_few;
        known = s.known;
        records = e.for_polygons;
        words = e.for_vertices;
        for_out = e.for_out;
        for_shrunk = e.for_shrunk;
        for_floats = e.for_shrunk_floats;
        for_octants = e.for_octants;
        for_entries = e.for_entries;
        for_places = e.for_places;
        for_temp = e.for_temp;
        for_stack = e.for_stack;
        for_rows = e.for_rows;
        for_points = e.for_points;
        for_centres = e.for_centres;
        for_olds = e.for_olds;
        for_news = e.for_news;
      }

  pub geometry_list_room : ListRoom g.counts.polygons g.counts.materials g.numbers g.mats b.list b.indices
  geometry_list_room =
      let e = s.enough in
      record {
        few = s.few.polygons_few;
        some = s.few.materials_few;
        numbered = e.for_numbers;
        given = e.for_mats;
        for_list = e.for_list;
        for_indices = e.for_indices;
      }

  pub geometry_store_room : StoreRoom g.counts.vertices g.vertices b.stored b.floats
  geometry_store_room = let e = s.enough in record { given = e.for_vertices; for_stored = e.for_stored; for_floats = e.for_floats }

module _ (g : Mesh) (b : Lists) (t : Outputs) (w : BvhWork) (others : GeometryLengths)
    (s : Sound g.bound g.counts (bvh_lengths g b t w others) g.polygons (materials_of g)) where
  pub bvh_room : BvhRoom g.counts.polygons g.counts.vertices g.polygons g.numbers g.vertices b.polygons t w
  bvh_room =
      let e = s.enough in
      record {
        few = s.few.polygons_few;
        few_vertices = s.few.vertices_few;
        known = s.known;
        records = e.for_polygons;
        numbered = e.for_numbers;
        words = e.for_vertices;
        for_out = e.for_out;
        for_nodes = e.for_nodes;
        for_trees = e.for_trees;
        for_order = e.for_order;
        for_entries = e.for_entries;
        for_places = e.for_places;
        for_temp = e.for_temp;
        for_stack = e.for_stack;
        for_rows = e.for_rows;
        for_points = e.for_points;
        for_sorted = e.for_sorted;
        for_centres = e.for_centres;
      }

  -- the numbers are the given ones, or as many in another list
  pub bvh_list_room : (numbers : List ℕ) → length numbers ≡ length w.sorted
      → ListRoom g.counts.polygons g.counts.materials numbers g.mats b.list b.indices
  bvh_list_room numbers same =
      let e = s.enough in
      record {
        few = s.few.polygons_few;
        some = s.few.materials_few;
        numbered = rw same e.for_sorted;
        given = e.for_mats;
        for_list = e.for_list;
        for_indices = e.for_indices;
      }

  pub bvh_given_room : ListRoom g.counts.polygons g.counts.materials g.numbers g.mats b.list b.indices
  bvh_given_room =
      let e = s.enough in
      record {
        few = s.few.polygons_few;
        some = s.few.materials_few;
        numbered = e.for_numbers;
        given = e.for_mats;
        for_list = e.for_list;
        for_indices = e.for_indices;
      }

  pub bvh_store_room : StoreRoom g.counts.vertices g.vertices b.stored b.floats
  bvh_store_room = let e = s.enough in record { given = e.for_vertices; for_stored = e.for_stored; for_floats = e.for_floats }
