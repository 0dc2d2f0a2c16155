-- Two kinds are the same or not, by how a test answers.
use denote.Enum.Bare.{sameb}
use mathlib.Core.Bool.{Bool, true, false, not}
use mathlib.Core.Path.{◌≡◌, refl}
use Rattle.meshes.specs.contracts.kind.Kind.{the_type}
use Rattle.meshes.specs.declared.kind.Kind.{Kind}
use Rattle.meshes.specs.declared.kind.Kind.TheVariants.{Geometry, Bvh}

pub unlike : (a b : Kind) (r : Bool) → r ≡ not (sameb the_type a b) → r ≡ true → a ≡ b → ⊥
unlike Geometry Geometry r e t same = cc
unlike Geometry Bvh r e t same = cc
unlike Bvh Geometry r e t same = cc
unlike Bvh Bvh r e t same = cc

pub alike : (a b : Kind) (r : Bool) → r ≡ not (sameb the_type a b) → r ≡ false → a ≡ b
alike Geometry Geometry r e f = refl
alike Geometry Bvh r e f = cc
alike Bvh Geometry r e f = cc
alike Bvh Bvh r e f = refl
