-- `lower`: by which of the two corners is less.
use Rattle.std.proofs.Common.{◌≡◌, ℕ, ◌/◌, ◌<◌, min, arith}
use native.Mathlib.Decide.{dec_lt}
use Rattle.sides.specs.Sides.{pair_of}
use Rattle.sides.proofs.SideLaws.{pair_up, pair_down}
use Rattle.side_chains.proofs.chains.lower.Goals as goal

lower_is : (a b r : ℕ) → a < 32768 → b < 32768 → r ≡ min a b → r ≡ pair_of a b / 32768
lower_is a b r p q e = go (dec_lt a b)
  where
    go : Dec (a < b) → r ≡ pair_of a b / 32768
    go (yes k) = omega (arith, pair_up a b k)
    go (no k) = let h = pair_down a b (omega arith) in omega arith

pub returns : goal.returns
returns c = lower_is _ _ _ c.requires.0 c.requires.1 c.min.ensures
