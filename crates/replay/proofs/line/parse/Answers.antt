-- `line::parse` meets its contract: the digits name one operation, whose words the rest of the line must be.
use Rattle.std.proofs.Common.{◌≡◌, ℕ, ◌-◌, ◌^◌, ◌<◌, ◌≤◌, true, false, List, length, take, drop, sym, ap, ◌∙◌, subst, arith, length-drop, length-take, length-take-le, take_all}
use Rattle.io.specs.Digits.{last_digits}
use Rattle.replay.specs.Lines.{fields_of, line_of, Spells, Fields, Parses}
use Rattle.replay.specs.Operations.{number_of, count_of}
use Rattle.std.specs.Prelude.{Option, Some, None}
use Rattle.replay.specs.declared.operation.Operation.{Operation}
use Rattle.replay.proofs.LineLaws.{line_length, line_number, line_fields, line_made, line_names}
use Rattle.replay.proofs.Numbering.{numbered, has}
use Rattle.replay.proofs.Spelling.{spelt_in, none_in}
use Rattle.replay.proofs.line.parse.Goals as goal

-- What is lent of the line is all after its first two bytes.
lent : (line : List ℕ) → take (length line - 2) (drop 2 line) ≡ drop 2 line
lent line = take_all (length line - 2) (drop 2 line) (simp length-drop (omega arith))

-- The line's first two bytes are the digits of n.
abbrev Begins : List ℕ → ℕ → Type 0
Begins line n = (take 2 line ≡ last_digits 16 2 n) × (n < 16 ^ 2)

begins : (line : List ℕ) (n : ℕ) {read : Option ℕ} → 2 ≤ length line → Spells (take 2 line) read → read ≡ Some n → Begins line n
begins line n h s e = spelt_in (take 2 line) 2 n (length-take-le 2 line h) (subst (Spells (take 2 line)) e s)

-- A line of an operation begins with the operation's number.
named : (line : List ℕ) (n : ℕ) → Begins line n → (op : Operation) (vs : List ℕ) → line ≡ line_of op vs → n ≡ number_of op
named line n b op vs e = line_names line n op vs b.0 b.1 e

pub returns-then-line-lt2 : goal.returns-then-line-lt2
returns-then-line-lt2 c = λ op vs n e. omega (arith, ap length e, line_length op vs)

pub slice_bounds-number-end : goal.slice_bounds-number-end
slice_bounds-number-end c = sym (length-take-le 2 c.args.line.now c.if-line-lt2.false)

pub number-requires : goal.number-requires
number-requires c = simp length-take (omega arith)

pub returns-in_err-n : goal.returns-in_err-n
returns-in_err-n c =
    let line = c.args.line.now in
    let none : Spells (take 2 line) None = subst (Spells (take 2 line)) c.in_err-n.was c.number.ensures in
    let no-line : Parses line c.args.words.now None =
    λ op vs n e. none_in (take 2 line) 2 (number_of op) (length-take-le 2 line c.if-line-lt2.false) none (ap (take 2) e ∙ line_number op vs) in
    subst (Parses line c.args.words.now) (sym c.from_residual.ensures) no-line

pub returns-then-n-lt1 : goal.returns-then-n-lt1
returns-then-n-lt1 c =
    let b = begins c.args.line.now c.in_ok-n.n c.if-line-lt2.false c.number.ensures c.in_ok-n.was in
    λ op vs n e. omega (arith, c.if-n-lt1.true, named _ _ b op vs e, (numbered op).least)

pub returns-then-n-gt35 : goal.returns-then-n-gt35
returns-then-n-gt35 c =
    let b = begins c.args.line.now c.in_ok-n.n c.if-line-lt2.false c.number.ensures c.in_ok-n.was in
    λ op vs n e. omega (arith, c.if-n-gt35.true, named _ _ b op vs e, (numbered op).most)

pub returns-then-line-count : goal.returns-then-line-count
returns-then-line-count c =
    let b = begins c.args.line.now c.in_ok-n.n c.if-line-lt2.false c.number.ensures c.in_ok-n.was in
    λ op vs n e. c.if-line-count.true (omega (arith, ap length e, line_length op vs, n, c.count-count.ensures.counts op (named _ _ b op vs e)))

pub fields-requires : goal.fields-requires
fields-requires c =
    let line = c.args.line.now in
    (omega (arith, ap length (lent line), length-drop 2 line, c.if-line-count.false), omega (arith, c.count-count.ensures.upper_bound))

pub returns-then-fields : goal.returns-then-fields
returns-then-fields c =
    let line = c.args.line.now in
    let words = c.fields.new.words in
    let b = begins line c.in_ok-n.n c.if-line-lt2.false c.number.ensures c.in_ok-n.was in
    let read : Fields (take (length line - 2) (drop 2 line)) c.count-count.result (take c.count-count.result words) true = subst (Fields _ _ _) c.if-fields.true c.fields.ensures in
    let it = has c.in_ok-n.n (omega (arith, c.if-n-lt1.false)) (omega (arith, c.if-n-gt35.false)) in
    let number_is = b.0 ∙ ap (last_digits 16 2) it.named in
    let counted = c.count-count.ensures.counts it.op it.named in
    let fields-are = sym (lent line) ∙ read ∙ ap (λ (k : ℕ). fields_of (take k words)) counted in
    record { op = it.op; named = it.named; same = line_made line it.op (take (count_of it.op) words) number_is fields-are }

pub returns-else-fields : goal.returns-else-fields
returns-else-fields c =
    let line = c.args.line.now in
    let b = begins line c.in_ok-n.n c.if-line-lt2.false c.number.ensures c.in_ok-n.was in
    let none : Fields (take (length line - 2) (drop 2 line)) c.count-count.result (take c.count-count.result c.fields.new.words) false = subst (Fields _ _ _) c.if-fields.false c.fields.ensures in
    λ op vs n e. none vs (n ∙ sym (c.count-count.ensures.counts op (named _ _ b op vs e))) (lent line ∙ ap (drop 2) e ∙ line_fields op vs)
