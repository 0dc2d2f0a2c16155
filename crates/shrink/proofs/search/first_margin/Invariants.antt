-- `search::first_margin` meets its contract. The loop's invariant: the turns that are left, from the present margin on, answer what all 148 do.
use mathlib.Core.Path.{◌≡◌}
use Prim.Native.Nat.{ℕ, ◌-◌}
use mathlib.Core.List.{List}
use lib.ListN.{length}
use lib.Ieee.{Float}
use Rattle.rings.specs.Meshes.{Mesh, mesh_of}
use Rattle.trial.specs.Trials.{passes_at}
use Rattle.shrink.specs.Margins.{passing}
use Rattle.shrink.specs.Searching.{margin_of}
use Rattle.shrink.proofs.search.first_margin.Given as goal

pub record Going (mesh : Mesh) (start : Float) (ring₀ : List ℕ) (ns₀ news₀ : List Float) (points₀ ring : List ℕ) (ns news : List Float)
    (points : List ℕ) (margin : Float) (left : ℕ) : Type 0 where
  pub ring-length : length ring ≡ length ring₀
  pub ns-length : length ns ≡ length ns₀
  pub news-length : length news ≡ length news₀
  pub points-length : length points ≡ length points₀
  pub rest : passing (passes_at mesh) left margin ≡ margin_of mesh start

abbrev pub invariant-loop-turn : goal.invariant-loop-turn
invariant-loop-turn l = Going (mesh_of l.corners l.links l.n l.vertices l.v) l.start l.initial.ring l.initial.ns l.initial.news l.initial.points l.ring l.ns l.news l.points l.margin (148 - l._turn)
