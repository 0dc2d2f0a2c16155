-- Sides as chains, one for each lower corner, and the links that a walk along them gives. Definitions only.
use Rattle.std.specs.Prelude.{ℕ, ◌+◌, ◌-◌, ◌/◌, ◌%◌, ◌≤◌, ◌<◌, true, cond, ◌≡◌, List, [], ◌∷◌, eqb, ltb, length, get_or, set}
use Rattle.base.specs.Every.{Every}
use Rattle.base.specs.Lists.{sift, up_from}
use Rattle.corners.specs.Corners.{none, there, Corners}
use Rattle.sides.specs.Lists.{with_key, RisingBy}
use Rattle.sides.specs.Steps.Linked.{Linked}

-- a side's lower and its higher corner, by its key
abbrev pub low_of : (ℕ → ℕ) → ℕ → ℕ
low_of key s = key s / 32768

abbrev pub high_of : (ℕ → ℕ) → ℕ → ℕ
high_of key s = key s % 32768

-- what `nexts` has of a side: its higher corner, and what leads to the side behind it
abbrev pub high_in : List ℕ → ℕ → ℕ
high_in nexts s = get_or nexts s 0 / 131072

abbrev pub behind_in : List ℕ → ℕ → ℕ
behind_in nexts s = get_or nexts s 0 % 131072

-- The sides ss are a chain to which e leads: 1 and the number of the first side, and 0 past the last.
abbrev pub Chain : List ℕ → ℕ → List ℕ → Type 0
Chain nexts e [] = e ≡ 0
Chain nexts e (s ∷ ss) = (e ≡ s + 1) × Chain nexts (behind_in nexts s) ss

-- For each lower corner there is a chain of those of the sides ss that have it, and beside each stands its higher one.
pub record Chained (key : ℕ → ℕ) (ss heads nexts : List ℕ) : Type 0 where
  pub chains : (a : ℕ) → a < length heads → Chain nexts (get_or heads a 0) (with_key (low_of key) a ss)
  pub highs : Every (λ s. high_in nexts s ≡ high_of key s) ss

-- ---- how they come about

-- the highest corner and one, so far
unfoldable pub past_of : ℕ → ℕ → ℕ
past_of past c = cond (eqb c none) past (cond (ltb c past) past (c + 1))

-- every corner is below m
abbrev pub CornersBelow : ℕ → List ℕ → Type 0
CornersBelow m cs = (s : ℕ) → s < length cs → there cs s ≡ true → get_or cs s 0 < m

-- the sides from s on that are there
abbrev pub sides_from : List ℕ → ℕ → List ℕ
sides_from cs s = sift (there cs) (up_from s (length cs - s))

-- Corners whose sides can be entered.
pub record Enterable (cs heads nexts : List ℕ) : Type 0 where
  pub corners : Corners cs
  pub below : CornersBelow (length heads) cs
  pub for_nexts : length cs ≤ length nexts

-- ---- the walk

-- a side on the edge of side f, which is the first: it gets f's polygon for a link, and f its, unless f has one
unfoldable pub later_linked : List ℕ → ℕ → ℕ → List ℕ
later_linked links f s =
    let one = set links s (f / 3) in
    cond (eqb (get_or one f 0) none) (set one f (s / 3)) one

-- A side that can be linked.
pub record Fit (nexts firsts links : List ℕ) (s : ℕ) : Type 0 where
  pub number : s + 1 < 131072
  pub for_next : s < length nexts
  pub for_link : s < length links
  pub for_first : high_in nexts s < length firsts

-- A chain that can be walked along; `firsts` has nothing above `base`.
pub record Walkable (nexts : List ℕ) (head base : ℕ) (firsts links : List ℕ) : Type 0 where
  pub sides : List ℕ
  pub chain : Chain nexts head sides
  pub rising : RisingBy (λ s. s) sides
  pub fit : Every (Fit nexts firsts links) sides
  pub room : base + 131072 ≤ 4294967296
  pub old : (b : ℕ) → b < length firsts → get_or firsts b 0 ≤ base

-- The sides of the chain are linked, of which those with one higher corner lie on one edge.
pub record Walked (nexts : List ℕ) (head base : ℕ) (firsts before after : List ℕ) : Type 0 where
  pub linked : (ss : List ℕ) → Chain nexts head ss → Linked (high_in nexts) ss before after
  pub newer : (b : ℕ) → b < length firsts → get_or firsts b 0 ≤ base + 131072

-- Chains that can be walked along, all of them.
pub record Linkable (heads nexts firsts links : List ℕ) : Type 0 where
  pub key : ℕ → ℕ
  pub sides : List ℕ
  pub chained : Chained key sides heads nexts
  pub rising : RisingBy (λ s. s) sides
  pub fit : Every (Fit nexts firsts links) sides
  pub few : length heads ≤ 32768
  pub old : (b : ℕ) → b < length firsts → get_or firsts b 0 ≤ 0
