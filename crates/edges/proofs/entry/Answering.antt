-- What the entry answers, case by case, and what room there is where no buffer is too short.
use Prim.Native.Nat.{ℕ, ◌*◌, ◌≤◌, ◌<◌}
use mathlib.Core.Path.{◌≡◌, refl}
use mathlib.Core.Bool.{true, false}
use mathlib.Core.List.{List}
use lib.Dec.{ltb}
use borrow.Author.Tests.{lt-ltb, le-ltb, ltb-false}
use Rattle.std.specs.Prelude.{Ok, Err}
use Rattle.base.proofs.Truth.{neither}
use Rattle.corners.specs.Corners.{kinds_known}
use Rattle.edges.specs.declared.entry.Lengths.{Lengths}
use Rattle.polygon.specs.declared.PolygonsRefusal.TheVariants.{TooManyPolygons, BufferTooShort, UnknownKind}
use Rattle.edges.specs.Edges.{short, answer_of, linked, Answered}

module _ (n : ℕ) (l : Lengths) where
  -- of the records, and of the parts to work in
  pub room : short n l ≡ false
      → (16 * n ≤ l.polygons) × (3 * n ≤ l.corners) × (3 * n ≤ l.keys) × (3 * n ≤ l.sides) × (3 * n ≤ l.spare) × (3 * n ≤ l.links)
  room e =
      let e₅ = neither _ (ltb l.links (3 * n)) e in
      let e₄ = neither _ (ltb l.spare (3 * n)) e₅.0 in
      let e₃ = neither _ (ltb l.sides (3 * n)) e₄.0 in
      let e₂ = neither _ (ltb l.keys (3 * n)) e₃.0 in
      let e₁ = neither (ltb l.polygons (16 * n)) (ltb l.corners (3 * n)) e₂.0 in (
        ltb-false l.polygons (16 * n) e₁.0,
        ltb-false l.corners (3 * n) e₁.1,
        ltb-false l.keys (3 * n) e₂.1,
        ltb-false l.sides (3 * n) e₃.1,
        ltb-false l.spare (3 * n) e₄.1,
        ltb-false l.links (3 * n) e₅.1,
      )

  module _ (before : List ℕ) where
    many : 32767 < n → Err TooManyPolygons ≡ answer_of n l before
    unfolding answer_of
    many h = rw (lt-ltb 32767 n h)

    pub too_many : 32767 < n → Answered n l before before (Err TooManyPolygons)
    too_many h = record { answer = many h; bytes = refl }

    small : n ≤ 32767 → short n l ≡ true → Err BufferTooShort ≡ answer_of n l before
    unfolding answer_of
    small h e = rw (le-ltb 32767 n h, e)

    pub too_small : n ≤ 32767 → short n l ≡ true → Answered n l before before (Err BufferTooShort)
    too_small h e = record { answer = small h e; bytes = refl }

    other : n ≤ 32767 → short n l ≡ false → kinds_known n before ≡ false → Err UnknownKind ≡ answer_of n l before
    unfolding answer_of
    other h e k = rw (le-ltb 32767 n h, e, k)

    pub unknown : n ≤ 32767 → short n l ≡ false → kinds_known n before ≡ false → Answered n l before before (Err UnknownKind)
    unknown h e k = record { answer = other h e k; bytes = refl }

    done : n ≤ 32767 → short n l ≡ false → kinds_known n before ≡ true → Ok tt ≡ answer_of n l before
    unfolding answer_of
    done h e k = rw (le-ltb 32767 n h, e, k)

    pub served : (after : List ℕ) → n ≤ 32767 → short n l ≡ false → kinds_known n before ≡ true → after ≡ linked n before
        → Answered n l before after (Ok tt)
    served after h e k q = record { answer = done h e k; bytes = q }
