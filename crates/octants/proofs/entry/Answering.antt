-- What the entry answers, case by case, and what room there is where no buffer is too short.
use Prim.Native.Nat.{ℕ, ◌*◌, ◌≤◌, ◌<◌}
use mathlib.Core.Path.{◌≡◌, refl, sym, ap, ◌∙◌}
use mathlib.Core.Bool.{Bool, true, false}
use mathlib.Core.List.{List}
use lib.Dec.{ltb}
use borrow.Author.Tests.{lt-ltb, le-ltb, ltb-false}
use Rattle.base.proofs.Truth.{neither}
use Rattle.shadows.specs.Octants.{octant_of}
use Rattle.octants.specs.declared.lists.OctantCounts.{OctantCounts}
use Rattle.octants.specs.declared.entry.OctantsRefusal.TheVariants.{TooManyVertices, BufferTooShort}
use Rattle.std.proofs.Common.{Ok, Err}
use Rattle.octants.specs.declared.entry.Lengths.{Lengths}
use Rattle.octants.specs.Octants.{short, counts_of, answer_of, Answered, Wrote}

pub few : (n : ℕ) {test : Bool} → test ≡ ltb 32768 n → test ≡ false → n ≤ 32768
few n e f = ltb-false 32768 n (sym e ∙ f)

module _ (n : ℕ) (l : Lengths) where
  pub room : short n l ≡ false
      → (3 * n ≤ l.vertices) × (8 * n ≤ l.lists) × (3 * n ≤ l.keys) × (4 * n ≤ l.rows) × (n ≤ l.order) × (n ≤ l.temp) × (n ≤ l.marks)
  room e =
      let e₆ = neither _ (ltb l.marks n) e in
      let e₅ = neither _ (ltb l.temp n) e₆.0 in
      let e₄ = neither _ (ltb l.order n) e₅.0 in
      let e₃ = neither _ (ltb l.rows (4 * n)) e₄.0 in
      let e₂ = neither _ (ltb l.keys (3 * n)) e₃.0 in
      let e₁ = neither (ltb l.vertices (3 * n)) (ltb l.lists (8 * n)) e₂.0 in (
        ltb-false l.vertices (3 * n) e₁.0,
        ltb-false l.lists (8 * n) e₁.1,
        ltb-false l.keys (3 * n) e₂.1,
        ltb-false l.rows (4 * n) e₃.1,
        ltb-false l.order n e₄.1,
        ltb-false l.temp n e₅.1,
        ltb-false l.marks n e₆.1,
      )

  module _ (ws before : List ℕ) where
    many : 32768 < n → Err TooManyVertices ≡ answer_of n l ws
    unfolding answer_of
    many h = rw (lt-ltb 32768 n h)

    pub too_many : 32768 < n → Answered n l ws before before (Err TooManyVertices)
    too_many h = record { answer = many h; lists_are = refl }

    small : n ≤ 32768 → short n l ≡ true → Err BufferTooShort ≡ answer_of n l ws
    unfolding answer_of
    small h e = rw (le-ltb 32768 n h, e)

    pub too_small : n ≤ 32768 → short n l ≡ true → Answered n l ws before before (Err BufferTooShort)
    too_small h e = record { answer = small h e; lists_are = refl }

    done : n ≤ 32768 → short n l ≡ false → Ok (counts_of (λ o. octant_of o ws n)) ≡ answer_of n l ws
    unfolding answer_of
    done h e = rw (le-ltb 32768 n h, e)

    pub served : (after : List ℕ) (r : OctantCounts) → n ≤ 32768 → short n l ≡ false → Wrote n ws before after r → Answered n l ws before after (Ok r)
    served after r h e w = record { answer = ap Ok w.counts ∙ done h e; lists_are = w.lists_are }
