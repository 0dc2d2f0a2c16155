-- `lines::put_lines` meets its contract: the lines of the first i records are put.
use Rattle.std.specs.Prelude.{ℕ, ◌*◌, List}
use mathlib.Core.Path.{ap}
use Rattle.listing.proofs.Lining.{no_line, line_next, line_room, all_lines}
use Rattle.listing.proofs.Putting.{put_as}
use native.Mathlib.Omega.{arith}
use Rattle.listing.proofs.lines.put_lines.Goals as goal

pub loop-i-init : goal.loop-i-init
loop-i-init g c =
    let a = c.args in
    let line : ℕ → List ℕ = λ i. g.R.Shown.line i (g.R.Shown.stands a.bytes.now (16 * i)) in
    no_line line a.out.now a.at a.count

pub put_line-end-requires : goal.put_line-end-requires
put_line-end-requires g c =
    let line : ℕ → List ℕ = λ i. g.R.Shown.line i (g.R.Shown.stands c.args.bytes.now (16 * i)) in
    (line_room line c.loop-i.invariant (omega arith) (omega arith), omega arith)

pub loop-i-preserved : goal.loop-i-preserved
loop-i-preserved g c =
    let l = c.loop-i in
    let line : ℕ → List ℕ = λ i. g.R.Shown.line i (g.R.Shown.stands c.args.bytes.now (16 * i)) in
    line_next line l.invariant (omega arith) (put_as (ap (g.R.Shown.line l.i) c.read.ensures) (omega arith) c.put_line-end.ensures)

pub returns : goal.returns
returns g c =
    let line : ℕ → List ℕ = λ i. g.R.Shown.line i (g.R.Shown.stands c.args.bytes.now (16 * i)) in
    all_lines line c.loop-i.invariant (omega arith)
