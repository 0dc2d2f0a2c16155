-- The corners that are unpacked and the links that are made are the mesh of the records, and what is lent is what shrinking it asks.
use Prim.Native.Nat.{ℕ, ◌*◌, ◌≤◌}
use native.Mathlib.Omega.{arith}
use mathlib.Core.Path.{◌≡◌, sym, ap, subst, ◌∙◌}
use mathlib.Core.List.{List}
use lib.Ieee.{Float}
use lib.ListN.{length, take, drop}
use lib.Seq.{take_at, take_all, length-take-le}
use Rattle.std.specs.Prelude.{Option}
use Rattle.base.specs.Lists.{over}
use Rattle.corners.specs.Corners.{Corners, corners_of}
use Rattle.corners.proofs.CornerLaws.{length_corners}
use Rattle.corners.proofs.LinkLaws.{corners_hold}
use Rattle.sides.specs.Links.{links_of, Room}
use Rattle.rings.specs.Meshes.{mesh_of}
use Rattle.rings.proofs.LinkedLaws.{links_serve}
use Rattle.shrinking.specs.declared.whole.Geometry.{Geometry}
use Rattle.shrinking.specs.Whole.{mesh_in, ShrunkTo}
use Rattle.shrinking.specs.Steps.Work.{Meshed}
use Rattle.verts_shrunk.specs.Steps.Work.{Lent}

module _ (n : ℕ) (polygons corners₀ corners : List ℕ) (e : corners ≡ over (corners_of n polygons) corners₀) where
  unpacked : take (3 * n) corners ≡ corners_of n polygons
  unpacked =
      let cs = corners_of n polygons in
      ap (take (3 * n)) e ∙ take_at cs (drop (length cs) corners₀) (3 * n) (length_corners n polygons)

  pub length_unpacked : length (take (3 * n) corners) ≡ 3 * n
  length_unpacked = ap length unpacked ∙ length_corners n polygons

  -- what the links are asked for
  pub linkable : (keys sides spare links : List ℕ) → n ≤ 32767 → 3 * n ≤ length keys → 3 * n ≤ length sides → 3 * n ≤ length spare → 3 * n ≤ length links
      → (Corners (take (3 * n) corners)) × (Room (take (3 * n) corners) keys sides spare links)
  linkable keys sides spare links few k s p l =
      let long = length_unpacked in (
        rw unpacked (corners_hold n polygons few),
        record { for_keys = omega arith; for_sides = omega arith; for_spare = omega arith; for_links = omega arith },
      )

  module _ (links : List ℕ) (are : take (length (take (3 * n) corners)) links ≡ links_of (take (3 * n) corners)) where
    those : take (3 * n) links ≡ links_of (take (3 * n) corners)
    those = ap (λ (k : ℕ). take k links) (sym length_unpacked) ∙ are

    module _ {v : ℕ} {vertices points corners₁ tri firsts spare links₁ : List ℕ} {normals olds news : List Float}
        (lent : Lent n polygons v vertices points corners₁ tri firsts spare links₁ normals olds news) where
      pub meshed : (tri' firsts' : List ℕ) → length tri' ≡ length tri → length firsts' ≡ length firsts → length links ≡ length links₁
          → Meshed (mesh_of (take (3 * n) corners) (take (3 * n) links) n vertices v) tri' firsts' normals olds news points
      meshed tri' firsts' t f l =
          let long : length (take (3 * n) links) ≡ 3 * n = length-take-le (3 * n) links (omega (arith, lent.links_room)) in
          let again =
          ap (λ (k : ℕ). take k (take (3 * n) links)) length_unpacked ∙ take_all (3 * n) (take (3 * n) links) (omega arith) ∙ those in
          record {
            linked =
                links_serve (take (3 * n) corners) n length_unpacked (take (3 * n) links) (omega (arith, lent.few)) (omega (arith, long)) again;
            vertices_in = lent.vertices_in;
            few_vertices = lent.few_vertices;
            tri_room = omega (arith, lent.tri_room);
            firsts_room = omega (arith, lent.firsts_room);
            normals_room = lent.normals_room;
            olds_room = lent.olds_room;
            news_room = lent.news_room;
            size = lent.size;
          }

    pub of_records : (g : Geometry) (v : ℕ) (vertices points : List ℕ) (r : Option Float)
        → ShrunkTo g (mesh_of (take (3 * n) corners) (take (3 * n) links) n vertices v) points r → ShrunkTo g (mesh_in n polygons v vertices) points r
    of_records g v vertices points r s =
        let link = those ∙ ap links_of unpacked in
        subst (λ m. ShrunkTo g m points r) (λ i. mesh_of (unpacked i) (link i) n vertices v) s
