-- `line::number` meets its contract: the bytes before the next one are digits and spell n. A byte that is no digit stands in no spelling.
use Rattle.std.proofs.Common.{◌≡◌, get_or, sym, ◌∙◌, subst, arith}
use Rattle.std.specs.Prelude.{None}
use Rattle.replay.specs.Lines.{digit_of, Spells}
use Rattle.replay.proofs.Spelling.{none, more, fits, whole, none_at, glyph_digit}
use Rattle.replay.proofs.line.number.Goals as goal

pub loop-byte-init : goal.loop-byte-init
loop-byte-init c = none _

pub returns-in_err-n : goal.returns-in_err-n
returns-in_err-n c =
    let no-digit : digit_of (get_or c.args.text.now c.loop-byte.byte-index 0) ≡ None = sym c.digit.ensures ∙ c.in_err-n.was in
    subst (Spells c.args.text.now) (sym c.from_residual.ensures) (λ n s. none_at _ c.loop-byte.byte-index n (omega arith) no-digit s)

pub overflow_add-n : goal.overflow_add-n
overflow_add-n c =
    let d = c.in_ok-n.field-0 in
    let digit = glyph_digit (get_or c.args.text.now c.loop-byte.byte-index 0) d (sym c.digit.ensures ∙ c.in_ok-n.was) in
    record { fits = fits c.loop-byte.invariant (omega arith) d digit.0 }

pub loop-byte-preserved : goal.loop-byte-preserved
loop-byte-preserved c = more c.loop-byte.invariant (omega arith) (sym c.digit.ensures ∙ c.in_ok-n.was)

pub returns : goal.returns
returns c = whole c.loop-byte.invariant (omega arith)
