-- `outcome::of` meets its contract: what the parser reads of the line, judged.
use Rattle.std.proofs.Common.{◌≡◌, ℕ, ◌≤◌, List, length, take, sym, ap, ◌∙◌, subst, arith, length-take-le}
use Rattle.replay.specs.Lines.{line_of, Says, Parses}
use Rattle.replay.specs.Outcomes.{Holds, Words, Agrees, Case}
use Rattle.std.specs.Prelude.{Option, Some}
use Rattle.replay.specs.Operations.{number_of, count_of}
use Rattle.replay.proofs.Numbering.{numbered, number_injective}
use Rattle.replay.specs.declared.operation.Operation.{Operation}
use Rattle.replay.proofs.outcome.of.Goals as goal

said : (line words : List ℕ) (n : ℕ) {read : Option ℕ} → read ≡ Some n → Parses line words read → Says n line words
said line words n is read = subst (Parses line words) is read

-- A line that says an operation's number is a case of that operation, of which holds what holds of its first words.
case_of : (P : Operation → List ℕ → Type 0) {n count : ℕ} {line all : List ℕ} (op : Operation) → Says n line all → n ≡ number_of op
    → count ≡ count_of op → count ≤ length all → Words (take count all) → P op (take count all) → Case P n line
case_of P {n} {count} {line} {all} op says named counted room fits found =
    let is = number_injective says.op op (sym says.named ∙ named) in
    let whole-line = subst (λ (o : Operation). line ≡ line_of o (take (count_of o) all)) is says.same in
    record {
      op = op;
      words = take count all;
      named = named;
      whole = length-take-le count all room ∙ counted;
      fits = fits;
      same = whole-line ∙ ap (λ (k : ℕ). line_of op (take k all)) (sym counted);
      judged = found;
    }

pub of_number-op-requires : goal.of_number-op-requires
of_number-op-requires c =
    let s = said c.args.line.now c.parse.new.words c.in-Some.n c.in-Some.is c.parse.ensures in
    (omega (arith, s.named, (numbered s.op).least), omega (arith, s.named, (numbered s.op).most))

pub count-count-requires : goal.count-count-requires
count-count-requires c =
    let s = said c.args.line.now c.parse.new.words c.in-Some.n c.in-Some.is c.parse.ensures in
    omega (arith, s.named, (numbered s.op).most)

pub inputs-taken-requires : goal.inputs-taken-requires
inputs-taken-requires c =
    let s = said c.args.line.now c.parse.new.words c.in-Some.n c.in-Some.is c.parse.ensures in
    omega (arith, s.named, (numbered s.op).most)

pub slice_bounds-judge-end : goal.slice_bounds-judge-end
slice_bounds-judge-end c = sym (length-take-le c.count-count.result c.parse.new.words (omega (arith, c.count-count.ensures.upper_bound, c.parse.auto.words)))

pub judge-requires : goal.judge-requires
judge-requires c =
    let op = c.of_number-op.result in
    let room : c.count-count.result ≤ length c.parse.new.words = omega (arith, c.count-count.ensures.upper_bound, c.parse.auto.words) in
    let named = c.of_number-op.ensures in
    (c.inputs-taken.ensures op named, length-take-le c.count-count.result c.parse.new.words room ∙ c.count-count.ensures.counts op named)

pub returns-in-None : goal.returns-in-None
returns-in-None c = subst (Parses c.args.line.now c.parse.new.words) c.in-None.is c.parse.ensures

pub returns-then-judge : goal.returns-then-judge
returns-then-judge c =
    let op = c.of_number-op.result in
    let s = said c.args.line.now c.parse.new.words c.in-Some.n c.in-Some.is c.parse.ensures in
    let room : c.count-count.result ≤ length c.parse.new.words = omega (arith, c.count-count.ensures.upper_bound, c.parse.auto.words) in
    let agrees : Agrees op (take c.count-count.result c.parse.new.words) = subst (Holds _) c.if-judge.true c.judge.ensures.holds in
    case_of Agrees op s c.of_number-op.ensures (c.count-count.ensures.counts op c.of_number-op.ensures) room c.judge.ensures.words agrees

pub returns-else-judge : goal.returns-else-judge
returns-else-judge c =
    let op = c.of_number-op.result in
    let s = said c.args.line.now c.parse.new.words c.in-Some.n c.in-Some.is c.parse.ensures in
    let room : c.count-count.result ≤ length c.parse.new.words = omega (arith, c.count-count.ensures.upper_bound, c.parse.auto.words) in
    let differs : Agrees op (take c.count-count.result c.parse.new.words) → ⊥ = subst (Holds _) c.if-judge.false c.judge.ensures.holds in
    case_of (λ (o : Operation) (ws : List ℕ). Agrees o ws → ⊥) op s c.of_number-op.ensures (c.count-count.ensures.counts op c.of_number-op.ensures) room c.judge.ensures.words differs
