-- What is asked where a mesh of kind 8 has passed the checks, and what is left where its lists are written at the end. Definitions only.
use Rattle.bvh.specs.Build.{Build}
use Rattle.std.specs.Prelude.{◌≡◌, ℕ, List, length, Ok, Err, Result}
use Rattle.bvh.specs.Entry.{Outputs}
use Rattle.bvh.specs.declared.slices.BuildRefusal.{BuildRefusal}
use Rattle.bvh.specs.declared.slices.BuiltTree.{BuiltTree}
use Rattle.finishing.specs.Steps.Finishing.{Stored, Listed}
use Rattle.materials.specs.Materials.{values_of, list_of}
use Rattle.meshes.specs.declared.Counts.{Counts}
use Rattle.meshes.specs.declared.Frame.{Frame}
use Rattle.meshes.specs.declared.GeometryLengths.{GeometryLengths}
use Rattle.meshes.specs.declared.PrepareRefusal.{PrepareRefusal}
use Rattle.meshes.specs.declared.PrepareRefusal.TheVariants.{TooManyNodes}
use Rattle.meshes.specs.Checks.{bvh_check}
use Rattle.meshes.specs.Meshes.{Mesh, materials_of, box_of}
use Rattle.prepared.specs.declared.Prepared.{Prepared}
use Rattle.prepared.specs.declared.Prepared.TheVariants.{Bvh}
use Rattle.prepared.specs.declared.Values.{Values}
use Rattle.prepared.specs.Answers.{Lists, BvhWork, bvh_lengths}
use Rattle.prepared.specs.Rebuilt.{frame_of}
use Rattle.vertices.specs.Vertices.{quantum_of_box}

-- The mesh passes the checks of kind 8 and has polygons.
pub record Growing (g : Mesh) (b : Lists) (t : Outputs) (w : BvhWork) (others : GeometryLengths) : Type 0 where
  pub passed : Ok tt ≡ bvh_check g.bound g.counts (bvh_lengths g b t w others) g.polygons (materials_of g)
  pub some : g.counts.polygons ≡ 0 → ⊥

-- a frame with its quantum, and how many materials ms are listed
abbrev pub values_in : Frame → List ℕ → Values
values_in f ms = record { frame = f; quantum = quantum_of_box (box_of f); materials = length (list_of ms) }

-- The list of the materials ms, their indices, and the vertices in units of the frame's quantum are written.
pub record Written (f : Frame) (ms vertices : List ℕ) (v : ℕ) (list list' indices indices' stored stored' floats floats' : List ℕ) : Type 0 where
  pub listed : Listed ms list list' indices indices' (length (list_of ms))
  pub kept : Stored (quantum_of_box (box_of f)) vertices v stored stored' floats floats'

-- Nothing is written.
pub record Untouched (list list' indices indices' stored stored' floats floats' : List ℕ) : Type 0 where
  pub list_is : list' ≡ list
  pub indices_are : indices' ≡ indices
  pub stored_are : stored' ≡ stored
  pub floats_are : floats' ≡ floats

-- With a tree the lists are written in its frame; where it is refused nothing is.
pub record Ended (built : Build) (c : Counts) (mats sorted vertices list list' indices indices' stored stored' floats floats' : List ℕ)
    (r : Result Prepared PrepareRefusal) : Type 0 where
  pub tree : (x : BuiltTree) → built ≡ Ok x
      → (r ≡ Ok (Bvh (values_in (frame_of x) (values_of c.materials mats c.polygons sorted)) x))
      × Written (frame_of x) (values_of c.materials mats c.polygons sorted) vertices c.vertices
      list list' indices indices' stored stored' floats floats'
  pub too_many : (why : BuildRefusal) → built ≡ Err why
      → (r ≡ Err TooManyNodes) × Untouched list list' indices indices' stored stored' floats floats'
