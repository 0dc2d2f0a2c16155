-- `totals::gather` meets its contract: the rest is added to what is begun.
use native.Mathlib.Omega.{arith}
use Prim.Native.Nat.{ℕ, ◌-◌}
use mathlib.Core.Path.{◌≡◌, ap, ◌∙◌}
use mathlib.Core.List.{List}
use lib.ListN.{length, take, drop, length-drop}
use lib.Seq.{take_all}
use Rattle.entries.specs.Boxes.{box_at}
use Rattle.entries.specs.Steps.Totals.{totals_from}
use Rattle.entries.proofs.TotalLaws.{go_on}
use Rattle.entries.proofs.totals.gather.Goals as goal

pub returns-then-n-lt256 : goal.returns-then-n-lt256
returns-then-n-lt256 c =
    let none = c.no_longer.ensures in
    (c.total.ensures, record { within = omega arith; kept = λ h. absurd (omega arith) })

pub returns : goal.returns
returns c =
    let g = c.args in
    let at = box_at g.entries.now in
    let ps : List ℕ = g.places.now in
    let b = c.begin-b in
    let k : ℕ = b.result.count in
    let rest : take (length ps - k) (drop k ps) ≡ drop k ps = take_all (length ps - k) (drop k ps) (omega (arith, length-drop k ps)) in (
      c.total_on.ensures ∙ ap (totals_from at b.result.totals) rest ∙ go_on at ps k b.result.totals b.ensures.1,
      record { within = b.ensures.0; kept = λ h. b.ensures.1 },
    )
