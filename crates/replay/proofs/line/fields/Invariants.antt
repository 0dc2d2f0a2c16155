-- `line::fields` meets its contract: the fields before i are those of the first i words. Where field i is none, the text is none of words.
use Rattle.std.proofs.Common.{◌≡◌, length}
use Rattle.replay.proofs.FieldLaws.{Read}
use Rattle.replay.proofs.line.fields.Given as goal

abbrev pub invariant-loop-i : goal.invariant-loop-i
invariant-loop-i l = (length l.words ≡ length l.initial.words) × Read l.text l.words l.i
