-- How many materials a prepared mesh has, before its list is filled to four: as many as the polygons had as given, in whatever order they then stand; so at most
-- 255 where the mesh is not refused, of either kind. From check 8 and the order of the leaves.
use Rattle.std.specs.Prelude.{◌≡◌, ℕ, ◌≤◌, Bool, true, false, cond, List, length, take, Result, Ok, Err, ⊤}
use native.Mathlib.Omega.{arith}
use mathlib.Core.Path.{refl, ap, ◌∙◌}
use borrow.Author.Tests.{ltb-false}
use lib.ListN.{length-map}
use lib.Seq.{length-take-le}
use Rattle.base.specs.Lists.{Permutes, Below, up_from}
use Rattle.materials.specs.Materials.{value_at, list_of}
use Rattle.meshes.proofs.CheckLaws.{sound, never_zero}
use Rattle.meshes.specs.declared.Lengths.{Lengths}
use Rattle.meshes.specs.declared.PrepareRefusal.{PrepareRefusal}
use Rattle.meshes.specs.declared.PrepareRefusal.TheVariants.{UnknownKind}
use Rattle.meshes.specs.Checks.{is_geometry, is_bvh, check_of}
use Rattle.meshes.specs.Meshes.{Mesh, materials_of}
use Rattle.rebuild.proofs.MaterialOrder.{second_pass_values, list_length_in_order}
use Rattle.rebuild.proofs.OrderLaws.{order_length, order_permutes, places_below}
use Rattle.reorder.specs.Reordering.{in_order}
use Rattle.prepared.specs.Answers.{answer_after, answer_of, number_of, geometry_answer, bvh_answer}
use Rattle.prepared.specs.Prepared.{rebuilds, used_of, prepared_of}
use Rattle.prepared.specs.Rebuilt.{entries_of8, order_of8, materials_of8}

module _ (g : Mesh) where
  abbrev p : ℕ
  p = g.counts.polygons

  -- the order of the leaves, in which kind 8 writes its polygons
  abbrev pub order : List ℕ
  order = order_of8 g.bound g.counts.polygons g.counts.vertices g.polygons g.vertices

  pub order_long : length order ≡ p
  unfolding order_of8 entries_of8
  order_long = order_length p _ _

  order_once : Permutes order (up_from 0 p)
  unfolding order_of8 entries_of8
  order_once = order_permutes p _ _

  pub order_within : Below p order
  unfolding order_of8 entries_of8
  order_within = places_below p _ _

  module _ (room : g.counts.polygons ≤ length g.numbers) where
    many : length (materials_of g) ≡ p
    many = length-map (take p g.numbers) (value_at g.counts.materials g.mats) ∙ length-take-le p g.numbers room

    -- What the source's second pass has before it are the given materials in that order.
    pub second_pass_in_order : materials_of8 order (materials_of g) ≡ in_order order (materials_of g)
    unfolding materials_of8
    second_pass_in_order = second_pass_values order (materials_of g) (rw many order_within)

    in_leaf_order : length (list_of (materials_of8 order (materials_of g))) ≡ length (list_of (materials_of g))
    in_leaf_order =
        ap (λ (ms : List ℕ). length (list_of ms)) second_pass_in_order
        ∙ list_length_in_order p order (materials_of g) order_long order_once many

    -- The order in which polygons are written does not change how many materials they have.
    pub materials_as_given : (prepared_of g).values.materials ≡ length (list_of (materials_of g))
    unfolding prepared_of used_of
    materials_as_given = by (rebuilds g)
      where
        by : (b : Bool) → length (list_of (cond b (materials_of8 order (materials_of g)) (materials_of g))) ≡ length (list_of (materials_of g))
        by true = in_leaf_order
        by false = refl

module _ (g : Mesh) (l : Lengths) (told : l.numbers ≡ length g.numbers) where
  -- An answer that is not refused has at most 255 materials.
  pub at_most_255_materials : number_of (answer_of g l) ≡ 0 → (prepared_of g).values.materials ≤ 255
  unfolding answer_of
  at_most_255_materials = by (check_of g l) refl
    where
      by : (x : Result ⊤ PrepareRefusal) → check_of g l ≡ x → number_of (answer_after g x) ≡ 0 → (prepared_of g).values.materials ≤ 255
      by (Err why) e k = absurd (never_zero why k)
      by (Ok passed) e k =
          let s = sound g.bound g.counts l g.polygons (materials_of g) e in
          omega (arith, materials_as_given g (omega (arith, s.enough.for_numbers)), ltb-false 255 (length (list_of (materials_of g))) s.not_full)

  -- So has one of each entry point.
  not_turned_down : (t : Bool) → number_of (cond t (Err UnknownKind) (answer_of g l)) ≡ 0 → number_of (answer_of g l) ≡ 0
  not_turned_down true e = absurd (omega arith)
  not_turned_down false e = e

  pub geometry_at_most_255 : number_of (geometry_answer g l) ≡ 0 → (prepared_of g).values.materials ≤ 255
  geometry_at_most_255 e = at_most_255_materials (not_turned_down (is_bvh g.bound.kind) e)

  pub bvh_at_most_255 : number_of (bvh_answer g l) ≡ 0 → (prepared_of g).values.materials ≤ 255
  bvh_at_most_255 e = at_most_255_materials (not_turned_down (is_geometry g.bound.kind) e)
