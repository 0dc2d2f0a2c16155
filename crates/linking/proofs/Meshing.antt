-- The corners that are unpacked are the polygons' corners, and what is then stored in the written records is their links.
use Prim.Native.Nat.{ℕ, ◌*◌, ◌≤◌}
use mathlib.Core.List.{List}
use mathlib.Core.Path.{◌≡◌, sym, ap, ap₂, ◌∙◌}
use lib.ListN.{length, take, drop}
use lib.Seq.{take_at}
use Rattle.base.specs.Lists.{over}
use Rattle.corners.specs.Corners.{Corners, corners_of, links_put}
use Rattle.corners.proofs.CornerLaws.{length_corners}
use Rattle.corners.proofs.LinkLaws.{corners_hold}
use Rattle.edges.specs.Edges.{linked}
use Rattle.sides.specs.Links.{links_of}
use Rattle.linking.specs.Written.{written_of}
use Rattle.linking.specs.Steps.Linking.{Meshed}
use Rattle.linking.proofs.LinkedLaws.{corners_same, linked_over}
use Rattle.linking.proofs.WrittenLaws.{length_written, corners_written}

module _ (n : ℕ) (polygons corners₀ corners : List ℕ) (e : corners ≡ over (corners_of n polygons) corners₀) where
  unpacked : take (3 * n) corners ≡ corners_of n polygons
  unpacked =
      let cs = corners_of n polygons in
      ap (take (3 * n)) e ∙ take_at cs (drop (length cs) corners₀) (3 * n) (length_corners n polygons)

  pub length_unpacked : length (take (3 * n) corners) ≡ 3 * n
  length_unpacked = ap length unpacked ∙ length_corners n polygons

  pub fit : n ≤ 32767 → Corners (take (3 * n) corners)
  fit h = rw unpacked (corners_hold n polygons h)

  module _ (links : List ℕ) (l : take (length (take (3 * n) corners)) links ≡ links_of (take (3 * n) corners)) where
    links_are : take (3 * n) links ≡ links_of (corners_of n polygons)
    links_are = ap (λ (k : ℕ). take k links) (sym length_unpacked) ∙ l ∙ ap links_of unpacked

    -- the corners of the written records, with others behind them
    corners_behind : (out₀ : List ℕ) → corners_of n (over (written_of n polygons) out₀) ≡ corners_of n polygons
    corners_behind out₀ =
        let w = written_of n polygons in
        corners_same n w (drop (length w) out₀) (length_written n polygons) ∙ corners_written n polygons

    pub meshed : (out₀ out₁ out : List ℕ) → out₁ ≡ over (written_of n polygons) out₀ → out ≡ links_put n (take (3 * n) links) out₁
        → Meshed n polygons out₀ out corners links
    unfolding linked
    meshed out₀ out₁ out w p =
        let written = over (written_of n polygons) out₀ in
        record {
          records_are =
              p
              ∙ ap₂ (λ (ls os : List ℕ). links_put n ls os) (links_are ∙ ap links_of (sym (corners_behind out₀))) w
              ∙ linked_over n (written_of n polygons) out₀ (length_written n polygons);
          corners_are = unpacked;
          links_are = links_are;
        }
