-- Rule E2 in the words of 01, over corners alone: which sides lie on one edge, and what a side is linked to. Definitions only.
-- That these are the links which the contracts speak of, and no others: proofs/ByMeaning, `link_by_meaning` and `link_by_meaning_only`.
use Rattle.std.specs.Prelude.{ℕ, ◌/◌, ◌≤◌, ◌<◌, true, List, ◌⊎◌, ◌≡◌, length, get_or}
use Rattle.corners.specs.Corners.{none, next_of, there}

-- s is a side of a triangle.
pub record IsSide (cs : List ℕ) (s : ℕ) : Type 0 where
  pub within : s < length cs
  pub of_triangle : there cs s ≡ true

-- 01: "on an undirected edge": both are sides, and the two corners of t are those of s, in one direction or the other.
pub record OnEdge (cs : List ℕ) (s t : ℕ) : Type 0 where
  pub own : IsSide cs s
  pub other : IsSide cs t
  pub corners : ((get_or cs t 0 ≡ get_or cs s 0) × (get_or cs (next_of t) 0 ≡ get_or cs (next_of s) 0))
      ⊎ ((get_or cs t 0 ≡ get_or cs (next_of s) 0) × (get_or cs (next_of t) 0 ≡ get_or cs s 0))

-- f is the first side on the edge of s.
pub record FirstOn (cs : List ℕ) (s f : ℕ) : Type 0 where
  pub on : OnEdge cs s f
  pub least : (u : ℕ) → OnEdge cs s u → f ≤ u

-- t is the next one on the edge of s, which is itself the first there.
pub record NextOn (cs : List ℕ) (s t : ℕ) : Type 0 where
  pub first : FirstOn cs s s
  pub on : OnEdge cs s t
  pub behind : s < t
  pub nearest : (u : ℕ) → OnEdge cs s u → s < u → t ≤ u

-- Rule E2: side s has the link l. 01: "the first two triangle sides on an undirected edge link to each other's triangle (one triangle may have both), later sides
-- to the first's; alone −1". Side t is of polygon t / 3.
pub record LinkMeaning (cs : List ℕ) (s l : ℕ) : Type 0 where
  pub alone : ((t : ℕ) → OnEdge cs s t → t ≡ s) → l ≡ none
  pub first : (t : ℕ) → NextOn cs s t → l ≡ t / 3
  pub later : (f : ℕ) → FirstOn cs s f → f < s → l ≡ f / 3
