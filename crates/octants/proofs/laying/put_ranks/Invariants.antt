-- `put_ranks` meets its contract. The invariant is `Filling`: x and y of a row are as they were.
use Rattle.std.proofs.Common.{◌≡◌, ℕ}
use Rattle.math.specs.declared.words3.Words3.{Words3}
use Rattle.octants.specs.Steps.Parts.{near_at}
use Rattle.octants.proofs.PartLaws.{Filling}
use Rattle.octants.proofs.laying.put_ranks.Given as goal

abbrev pub invariant-loop-p : goal.invariant-loop-p
invariant-loop-p g l =
    (f : Words3 → ℕ) → ((a : Words3) (r : ℕ) → goal.F-post g l.rank a r → r ≡ f a)
    → Filling (λ q. f (near_at l.falls l.n l.keys l.initial.rows q)) l.n l.at l.initial.rows l.rows l.p
