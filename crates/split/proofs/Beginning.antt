-- What is kept of what a list begins with: the first group begins with it too, where those places stand where they stood.
use Prim.Native.Nat.{ℕ, ◌≤◌, ◌<◌}
use native.Mathlib.Omega.{arith}
use mathlib.Core.Path.{◌≡◌, sym, ap, ◌∙◌}
use mathlib.Core.List.{List}
use lib.ListN.{length, take}
use lib.Seq.{take-take, length-take-le}
use Rattle.entries.specs.declared.boxes.BoxWords.{BoxWords}
use Rattle.entries.specs.declared.totals.Begun.{Begun}
use Rattle.entries.specs.Steps.Begun.{Begins}
use Rattle.entries.specs.Steps.Totals.{totals_all}
use Rattle.split.specs.Steps.Groups.{Same}

-- the first n of the places that stand, read from the first group
same_take : (ps w : List ℕ) (k r n : ℕ) → Same k ps w r → n ≤ k → take n ps ≡ take n (take r w)
same_take ps w k r n s h =
    sym (take-take n k ps h) ∙ ap (take n) (sym s.stand) ∙ take-take n k w h ∙ sym (take-take n r w (omega (arith, s.inside)))

pub first_begins : (at : ℕ → BoxWords) (b b' : Begun) (ps w : List ℕ) (k r : ℕ) → Begins at b ps → Same k ps w r → r ≤ length w
    → (b'.count ≤ k) × (0 < b'.count → b' ≡ b) → Begins at b' (take r w)
first_begins at b b' ps w k r a s h u =
    let n : ℕ = b'.count in
    let long : length (take r w) ≡ r = length-take-le r w h in
    record {
      within = omega (arith, u.0, s.inside);
      kept = λ some.
          let e : b' ≡ b = u.1 some in
          let m : b.count ≡ n = ap (λ (x : Begun). x.count) (sym e) in
          ap (λ (x : Begun). x.totals) e
          ∙ a.kept (omega arith)
          ∙ ap (λ (j : ℕ). totals_all at (take j ps)) m
          ∙ ap (totals_all at) (same_take ps w k r n s u.0);
    }
