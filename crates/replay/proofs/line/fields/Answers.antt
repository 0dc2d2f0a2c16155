-- `line::fields` meets its contract: the fields before i are those of the first i words. Where field i is none, the text is none of words.
use Rattle.std.proofs.Common.{◌≡◌, ℕ, ◌+◌, ◌-◌, ◌*◌, List, get_or, take, drop, refl, ap, ◌∙◌, subst, arith, length-drop, length-set, length-take}
use Rattle.replay.proofs.FieldLaws.{Read, read_more, read_whole, space_at, digits_at, part_digits, no_part}
use Rattle.replay.specs.Lines.{Spells}
use Rattle.std.specs.Prelude.{Some, None}
use Rattle.replay.proofs.line.fields.Goals as goal

pub loop-i-init : goal.loop-i-init
loop-i-init c = (refl, refl)

pub returns-then-text-at-ne32 : goal.returns-then-text-at-ne32
returns-then-text-at-ne32 c =
    λ vs n e.
    let i = c.loop-i.i in
    c.if-text-at-ne32.true (ap (λ (s : List ℕ). get_or s (9 * i) 0) e ∙ space_at i vs (omega arith))

pub number-requires : goal.number-requires
number-requires c = simp (length-take, length-drop) (omega arith)

pub returns-in_default : goal.returns-in_default
returns-in_default c =
    λ vs n e.
    let i = c.loop-i.i in
    let text = c.args.text.now in
    let k = 9 * i + 9 - (9 * i + 1) in
    let part = take k (drop (9 * i + 1) text) in
    let none : Spells part None = subst (Spells part) c.in_default.is c.number.ensures in
    let digits_are = ap (λ (s : List ℕ). take 8 (drop (9 * i + 1) s)) e ∙ digits_at i vs (omega arith) in
    no_part text (9 * i + 1) k (get_or vs i 0) (omega arith) (omega arith) none digits_are

pub loop-i-preserved : goal.loop-i-preserved
loop-i-preserved c =
    let i = c.loop-i.i in
    let words = c.loop-i.words in
    let text = c.args.text.now in
    let k = 9 * i + 9 - (9 * i + 1) in
    let part = take k (drop (9 * i + 1) text) in
    let w = c.in-Some.word in
    let number : Spells part (Some w) = subst (Spells part) c.in-Some.is c.number.ensures in
    let digits_are = part_digits text (9 * i + 1) k w (omega arith) (omega arith) number in
    let space = c.if-text-at-ne32.false in
    let more = read_more text words i w c.loop-i.invariant.1 (omega arith) (omega arith) space digits_are in
    (length-set words i w ∙ c.loop-i.invariant.0, more)

pub returns : goal.returns
returns c =
    let a = c.args in
    let words = c.loop-i.words in
    let n : c.loop-i.i ≡ a.count = omega arith in
    let read : Read a.text.now words a.count = subst (λ (k : ℕ). Read a.text.now words k) n c.loop-i.invariant.1 in
    read_whole a.text.now words a.count read (omega arith)
