-- `put_words`: the first i words are read.
use Rattle.mesh_input.proofs.Laws.{no_word, word_next, all_words}
use native.Mathlib.Omega.{arith}
use Rattle.mesh_input.proofs.put_words.Goals as goal

pub loop-i-init : goal.loop-i-init
loop-i-init c = no_word c.args.bytes.now c.args.at c.args.out.now c.args.n

pub bounds-out-i : goal.bounds-out-i
bounds-out-i c = omega (arith, c.loop-i.invariant.same)

pub loop-i-preserved : goal.loop-i-preserved
loop-i-preserved c =
    let a = c.args in
    let l = c.loop-i in
    word_next a.bytes.now a.at a.out.now l.out l.i a.n _ l.invariant (omega arith) c.requires.0
    c.word_at.ensures

pub returns : goal.returns
returns c =
    let a = c.args in
    let l = c.loop-i in
    all_words a.bytes.now a.at a.out.now l.out l.i a.n l.invariant (omega arith)
