-- The corners that are unpacked are the polygons' corners, and what is then stored is their links.
use Prim.Native.Nat.{ℕ, ◌*◌, ◌≤◌}
use mathlib.Core.Path.{◌≡◌, sym, ap, ◌∙◌}
use mathlib.Core.List.{List}
use lib.ListN.{length, take, drop}
use lib.Seq.{take_at}
use Rattle.base.specs.Lists.{over}
use Rattle.corners.specs.Corners.{Corners, corners_of, links_put}
use Rattle.corners.proofs.CornerLaws.{length_corners}
use Rattle.corners.proofs.LinkLaws.{corners_hold}
use Rattle.sides.specs.Links.{links_of}
use Rattle.edges.specs.Edges.{linked}

module _ (n : ℕ) (polygons corners₀ corners : List ℕ) (e : corners ≡ over (corners_of n polygons) corners₀) where
  unpacked : take (3 * n) corners ≡ corners_of n polygons
  unpacked =
      let cs = corners_of n polygons in
      ap (take (3 * n)) e ∙ take_at cs (drop (length cs) corners₀) (3 * n) (length_corners n polygons)

  pub length_unpacked : length (take (3 * n) corners) ≡ 3 * n
  length_unpacked = ap length unpacked ∙ length_corners n polygons

  pub fit : n ≤ 32767 → Corners (take (3 * n) corners)
  fit h = rw unpacked (corners_hold n polygons h)

  pub stored : (links after : List ℕ) → take (length (take (3 * n) corners)) links ≡ links_of (take (3 * n) corners)
      → after ≡ links_put n (take (3 * n) links) polygons → after ≡ linked n polygons
  unfolding linked
  stored links after l a =
      let m : take (3 * n) links ≡ links_of (corners_of n polygons) =
      ap (λ (k : ℕ). take k links) (sym length_unpacked) ∙ l ∙ ap links_of unpacked in
      a ∙ ap (λ (ls : List ℕ). links_put n ls polygons) m
