-- How the lists are left at the end, from what `finish` leaves and the values of frame and quantum.
use Rattle.bvh.specs.Build.{Build}
use Rattle.std.specs.Prelude.{◌≡◌, ℕ, List, Ok, Err}
use native.Mathlib.Omega.{arith}
use mathlib.Core.Path.{refl, sym, ap, subst, ◌∙◌}
use Rattle.bvh.specs.declared.slices.BuildRefusal.{BuildRefusal}
use Rattle.bvh.specs.declared.slices.BuiltTree.{BuiltTree}
use Rattle.finishing.specs.Steps.Finishing.{Stored, Listed}
use Rattle.materials.specs.Materials.{values_of}
use Rattle.math.specs.declared.vec3.Vec3.{Vec3}
use Rattle.meshes.specs.declared.Counts.{Counts}
use Rattle.meshes.specs.declared.Frame.{Frame}
use Rattle.meshes.specs.declared.PrepareRefusal.TheVariants.{TooManyNodes}
use Rattle.meshes.specs.Meshes.{box_of}
use Rattle.prepared.specs.declared.Prepared.TheVariants.{Bvh}
use Rattle.prepared.specs.Rebuilt.{frame_of}
use Rattle.vertices.specs.Vertices.{quantum_of_box}
use Rattle.checked_bvh.specs.Steps.Ending.{values_in, Written, Ended}

abbrev is_built : Build → ℕ
is_built (Ok t) = 1
is_built (Err why) = 0

abbrev tree_in : BuiltTree → Build → BuiltTree
tree_in other (Ok t) = t
tree_in other (Err why) = other

module _ (f f' : Frame) (ef : f ≡ f') (q : Vec3) (eq : q ≡ quantum_of_box (box_of f)) where
  quantum_is : q ≡ quantum_of_box (box_of f')
  quantum_is = eq ∙ ap (λ (x : Frame). quantum_of_box (box_of x)) ef

  pub values_are : (ms list list' indices indices' : List ℕ) (m : ℕ) → Listed ms list list' indices indices' m
      → (record { frame = f; quantum = q; materials = m }) ≡ values_in f' ms
  values_are ms list list' indices indices' m l = λ i. record { frame = ef i; quantum = quantum_is i; materials = l.counted i }

  pub lists_written : (ms vertices : List ℕ) (v : ℕ) (list list' indices indices' stored stored' floats floats' : List ℕ) (m : ℕ)
      → Listed ms list list' indices indices' m → Stored q vertices v stored stored' floats floats'
      → Written f' ms vertices v list list' indices indices' stored stored' floats floats'
  lists_written ms vertices v list list' indices indices' stored stored' floats floats' m l s =
      record {
        listed = record { counted = refl; list_is = l.list_is; indices_are = l.indices_are };
        kept = subst (λ (x : Vec3). Stored x vertices v stored stored' floats floats') quantum_is s;
      }

module _ (built : Build) (c : Counts) (mats sorted vertices list list' indices indices' stored stored' floats floats' : List ℕ) where
  abbrev used : List ℕ
  used = values_of c.materials mats c.polygons sorted

  pub ended_built : (y : BuiltTree) → built ≡ Ok y → (f : Frame) → f ≡ frame_of y → (q : Vec3) → q ≡ quantum_of_box (box_of f) → (m : ℕ)
      → Listed used list list' indices indices' m → Stored q vertices c.vertices stored stored' floats floats'
      → Ended built c mats sorted vertices list list' indices indices' stored stored' floats floats' (Ok (Bvh (record { frame = f; quantum = q; materials = m }) y))
  ended_built y told f ef q eq m l s =
      let same : (x : BuiltTree) → built ≡ Ok x → y ≡ x = λ x h. ap (tree_in y) (sym told ∙ h) in
      record {
        tree =
            λ x h. (
              (λ i. Ok (Bvh (values_are f (frame_of x) (ef ∙ ap frame_of (same x h)) q eq used list list' indices indices' m l i) (same x h i))),
              lists_written f (frame_of x) (ef ∙ ap frame_of (same x h)) q eq used vertices c.vertices list list' indices indices' stored stored' floats
                  floats' m l s,
            );
        too_many = λ why h. absurd (omega (arith, ap is_built (sym told ∙ h)));
      }

  pub ended_refused : (why : BuildRefusal) → built ≡ Err why → list' ≡ list → indices' ≡ indices → stored' ≡ stored → floats' ≡ floats
      → Ended built c mats sorted vertices list list' indices indices' stored stored' floats floats' (Err TooManyNodes)
  ended_refused why told el ei es ef =
      record {
        tree = λ x h. absurd (omega (arith, ap is_built (sym told ∙ h)));
        too_many = λ other h. (refl, record { list_is = el; indices_are = ei; stored_are = es; floats_are = ef });
      }
