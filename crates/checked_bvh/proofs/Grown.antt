-- What the parts of `prepare_bvh` ask of a mesh that passes the checks, and what they answer together. From the contracts of the parts.
use Rattle.bvh.specs.Build.{Build}
use Rattle.std.specs.Prelude.{◌≡◌, ℕ, false, List, length, Ok, Err, Result}
use mathlib.Core.Path.{refl, sym}
use Rattle.bvh.specs.Entry.{Outputs}
use Rattle.finishing.specs.Steps.Finishing.{StoreRoom, ListRoom}
use Rattle.meshes.specs.declared.GeometryLengths.{GeometryLengths}
use Rattle.meshes.specs.declared.PrepareRefusal.{PrepareRefusal}
use Rattle.meshes.specs.Checks.{is_geometry, bvh_check}
use Rattle.meshes.specs.Meshes.{Mesh, materials_of}
use Rattle.meshes.proofs.CheckLaws.{Sound, bvh_sound}
use Rattle.prepared.specs.declared.Prepared.{Prepared}
use Rattle.prepared.specs.declared.Prepared.TheVariants.{Empty}
use Rattle.prepared.specs.Answers.{Lists, lists, BvhWork, bvh_lengths, BvhAnswered}
use Rattle.prepared.specs.Steps.Shapes.{BvhRoom, BvhShaped}
use Rattle.prepared.proofs.BvhAnswering.{bvh_too_many, bvh_done, bvh_empty}
use Rattle.prepared.proofs.KindLaws.{kind_eight}
use Rattle.prepared.proofs.Rooms.{bvh_room, bvh_list_room, bvh_given_room, bvh_store_room}
use Rattle.checked_bvh.specs.Steps.Ending.{values_in, Written, Ended}

module _ (g : Mesh) (b : Lists) (t : Outputs) (w : BvhWork) (others : GeometryLengths)
    (passed : Ok tt ≡ bvh_check g.bound g.counts (bvh_lengths g b t w others) g.polygons (materials_of g)) where
  well : (is_geometry g.bound.kind ≡ false) × Sound g.bound g.counts (bvh_lengths g b t w others) g.polygons (materials_of g)
  well = bvh_sound g.bound g.counts (bvh_lengths g b t w others) g.polygons (materials_of g) (sym passed)

  eight : g.bound.kind ≡ 8
  eight = kind_eight g.bound.kind well.1.kind well.0

  -- ---- what is asked

  pub shape_room : BvhRoom g.counts.polygons g.counts.vertices g.polygons g.numbers g.vertices b.polygons t w
  shape_room = bvh_room g b t w others well.1

  pub tree_rooms : (sorted : List ℕ) → length sorted ≡ length w.sorted
      → ListRoom g.counts.polygons g.counts.materials sorted g.mats b.list b.indices
      × StoreRoom g.counts.vertices g.vertices b.stored b.floats
  tree_rooms sorted same = (bvh_list_room g b t w others well.1 sorted same, bvh_store_room g b t w others well.1)

  pub empty_rooms : ListRoom g.counts.polygons g.counts.materials g.numbers g.mats b.list b.indices
      × StoreRoom g.counts.vertices g.vertices b.stored b.floats
  empty_rooms = (bvh_given_room g b t w others well.1, bvh_store_room g b t w others well.1)

  -- ---- what is answered

  pub tree_answered : (some : g.counts.polygons ≡ 0 → ⊥) (built : Build) (list indices out stored floats sorted : List ℕ) (t' : Outputs) (r : Result Prepared PrepareRefusal)
      → BvhShaped g.bound g.counts.polygons g.counts.vertices g.polygons g.numbers g.vertices b.polygons out t t' sorted built
      → Ended built g.counts g.mats sorted g.vertices b.list list b.indices indices b.stored stored b.floats floats r
      → BvhAnswered g (bvh_lengths g b t w others) r b (lists list indices out stored floats) t t'
  tree_answered some (Ok x) list indices out stored floats sorted t' r shaped ended =
      let e = ended.tree x refl in
      rw e.0
      (bvh_done g (bvh_lengths g b t w others) eight passed some b (lists list indices out stored floats) t t' sorted x _ well.1.enough.for_numbers shaped
      e.1.listed e.1.kept)
  tree_answered some (Err why) list indices out stored floats sorted t' r shaped ended =
      let e = ended.too_many why refl in
      rw e.0
      (bvh_too_many g (bvh_lengths g b t w others) eight passed some b (lists list indices out stored floats) t t' sorted why shaped
      e.1.list_is e.1.indices_are e.1.stored_are e.1.floats_are)

  pub empty_answered : (none : g.counts.polygons ≡ 0) (list indices stored floats : List ℕ) (r : Result Prepared PrepareRefusal)
      → r ≡ Ok (Empty (values_in g.bound.frame (materials_of g)))
      → Written g.bound.frame (materials_of g) g.vertices g.counts.vertices b.list list b.indices indices b.stored stored b.floats floats
      → BvhAnswered g (bvh_lengths g b t w others) r b (lists list indices b.polygons stored floats) t t
  empty_answered none list indices stored floats r is written =
      rw is
      (bvh_empty g (bvh_lengths g b t w others) eight passed none b (lists list indices b.polygons stored floats) t _ refl written.listed written.kept)
