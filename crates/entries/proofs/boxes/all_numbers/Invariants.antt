-- `boxes::all_numbers` meets its contract. The loop's invariant: no word that is passed exceeds `most`, but for its sign.
use Prim.Native.Nat.{ℕ, ◌%◌, ◌≤◌, ◌<◌}
use lib.ListN.{get_or}
use Rattle.entries.proofs.boxes.all_numbers.Given as goal

abbrev pub invariant-loop-word : goal.invariant-loop-word
invariant-loop-word l = (j : ℕ) → j < l.word-index → get_or l.entries j 0 % 0x8000_0000 ≤ l.most
