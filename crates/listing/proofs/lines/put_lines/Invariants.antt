-- `lines::put_lines` meets its contract: the lines of the first i records are put.
use Rattle.std.specs.Prelude.{◌*◌}
use Rattle.listing.proofs.Lining.{Lined}
use Rattle.listing.proofs.lines.put_lines.Given as goal

abbrev pub invariant-loop-i : goal.invariant-loop-i
invariant-loop-i g l =
    Lined (λ k. g.R.Shown.line k (g.R.Shown.stands l.bytes (16 * k))) l.initial.out l.out l.at l.end l.i l.count
