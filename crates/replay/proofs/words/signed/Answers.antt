-- `words::signed` meets its contract: std's bits of n are its two's complement.
use Rattle.std.proofs.Common.{ap, ◌∙◌, to_z-of_z, w32, to_z, of_z}
use Rattle.replay.specs.Numbers.{signed_word}
use Rattle.replay.proofs.SignedWords.{word_is}
use Rattle.replay.proofs.words.signed.Goals as goal

pub returns : goal.returns
returns c = c.cast_unsigned.ensures ∙ word_is (to_z w32 (of_z w32 c.args.n)) ∙ ap signed_word (to_z-of_z c.ranges.n)
