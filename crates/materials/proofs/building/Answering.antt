-- What the entry answers, case by case, and what room there is where no buffer is too short.
use Prim.Native.Nat.{ℕ, ◌*◌, ◌≤◌}
use native.Mathlib.Omega.{arith}
use mathlib.Core.Path.{◌≡◌, refl, ap}
use mathlib.Core.Bool.{true, false}
use mathlib.Core.List.{List}
use Rattle.std.specs.Prelude.{Ok, Err}
use lib.Dec.{ltb}
use lib.ListN.{length}
use borrow.Author.Tests.{le-ltb, ltb-false}
use Rattle.base.proofs.Truth.{neither}
use Rattle.materials.specs.declared.building.MaterialsRefusal.TheVariants.{TooMany, BufferTooShort}
use Rattle.materials.specs.declared.building.Lengths.{Lengths}
use Rattle.materials.specs.Materials.{list_of}
use Rattle.materials.specs.Answers.{many, short, answer_of, Answered}
use Rattle.materials.specs.Steps.Listing.{Listed}

module _ (n m : ℕ) where
  pub few : many n m ≡ false → m ≤ 256
  few e = ltb-false 256 m (neither (ltb 32767 n) (ltb 256 m) e).1

  module _ (l : Lengths) where
    pub room : short n m l ≡ false → (n ≤ l.numbers) × (2 * m ≤ l.mats) × (2048 ≤ l.list) × (n ≤ l.indices)
    room e =
        let e₃ = neither _ (ltb l.indices n) e in
        let e₂ = neither _ (ltb l.list 2048) e₃.0 in
        let e₁ = neither (ltb l.numbers n) (ltb l.mats (2 * m)) e₂.0 in (
          ltb-false l.numbers n e₁.0,
          ltb-false l.mats (2 * m) e₁.1,
          ltb-false l.list 2048 e₂.1,
          ltb-false l.indices n e₃.1,
        )

    module _ (ms list₀ indices₀ : List ℕ) where
      over_limit : many n m ≡ true → Err TooMany ≡ answer_of n m l ms
      unfolding answer_of
      over_limit e = rw e

      pub too_many : many n m ≡ true → Answered n m l ms list₀ list₀ indices₀ indices₀ (Err TooMany)
      too_many e = record { answer = over_limit e; listed = refl; indexed = refl }

      small : many n m ≡ false → short n m l ≡ true → Err BufferTooShort ≡ answer_of n m l ms
      unfolding answer_of
      small e f = rw (e, f)

      pub too_small : many n m ≡ false → short n m l ≡ true → Answered n m l ms list₀ list₀ indices₀ indices₀ (Err BufferTooShort)
      too_small e f = record { answer = small e f; listed = refl; indexed = refl }

      module _ (list indices : List ℕ) (r : ℕ) (g : Listed ms list₀ list indices₀ indices r) where
        done : many n m ≡ false → short n m l ≡ false → Ok r ≡ answer_of n m l ms
        unfolding answer_of
        done e f = rw (e, f, le-ltb 256 (length (list_of ms)) (omega (arith, g.few, g.counted))) (ap Ok g.counted)

        pub served : many n m ≡ false → short n m l ≡ false → Answered n m l ms list₀ list indices₀ indices (Ok r)
        served e f = record { answer = done e f; listed = g.listed; indexed = g.indexed }
