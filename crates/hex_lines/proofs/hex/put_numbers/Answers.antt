-- `hex::put_numbers`: the first i are put.
use mathlib.Core.Path.{ap, ◌∙◌}
use native.Mathlib.Omega.{arith}
use Rattle.std.specs.Prelude.{ℕ, ◌*◌}
use Rattle.std.proofs.lemmas.List.Edits.{sets}
use Rattle.hex_lines.proofs.Each.{next_put}
use Rattle.hex_lines.proofs.hex.put_numbers.Goals as goal

pub loop-i-preserved : goal.loop-i-preserved
loop-i-preserved g c =
    let x = c.index-numbers-i.result in
    let i = c.loop-i.i in
    next_put g.T.Number.bytes_of g.T.Number.SIZE g.met.T.Number.as_many c.args.numbers.now c.args.out.now c.loop-i.out _ i x
    c.loop-i.invariant (omega arith) c.index-numbers-i.is c.requires
    (c.put.ensures ∙ ap (λ (k : ℕ). sets c.loop-i.out (k * i) (g.T.Number.bytes_of x)) c.SIZE.ensures)
