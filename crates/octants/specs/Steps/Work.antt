-- What the octants work in. Definitions only.
use Rattle.std.specs.Prelude.{ℕ, ◌*◌, ◌≤◌, List, length}
use Rattle.octants.specs.Steps.Parts.{Keyed}

-- Keys and rows of n vertices, and a word each to order, to sort and to mark.
pub record Work (n : ℕ) (keys rows order temp marks : List ℕ) : Type 0 where
  pub few : n ≤ 32768
  pub for_keys : 3 * n ≤ length keys
  pub for_rows : 4 * n ≤ length rows
  pub for_order : n ≤ length order
  pub for_temp : n ≤ length temp
  pub for_marks : n ≤ length marks

-- The keys are those of some vertices.
pub record Ready (n : ℕ) (keys rows order temp marks : List ℕ) : Type 0 where
  pub work : Work n keys rows order temp marks
  pub words : List ℕ
  pub keyed : Keyed n words keys
