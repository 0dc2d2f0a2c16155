-- What is asked and left where polygons that stand in the order of the leaves are linked, and their materials' numbers put in it. Definitions only.
use Rattle.std.specs.Prelude.{◌≡◌, ℕ, ◌≤◌, true, List, length, take, Ok, Err}
use Rattle.base.specs.Lists.{Below}
use Rattle.bvh.specs.Build.{Build, kept}
use Rattle.corners.specs.Corners.{kinds_known}
use Rattle.edges.specs.Edges.{linked}
use Rattle.edges.specs.Steps.Work.{Work}
use Rattle.reorder.specs.Reordering.{in_order, reordered_of}

-- There are p polygons of known kinds, room to link them in, and the order has places of numbers.
pub record Sortable (p : ℕ) (numbers out order entries places temp stack rows sorted : List ℕ) : Type 0 where
  pub work : Work p out entries places temp stack rows
  pub known : kinds_known p out ≡ true
  pub long : p ≤ length order
  pub places_below : Below (length numbers) (take p order)
  pub for_sorted : p ≤ length sorted

-- Rule K7: what both edge passes come to: one pass, over the polygons in the order of the leaves
abbrev pub linked_in_order : ℕ → List ℕ → List ℕ → List ℕ
linked_in_order p order polygons = linked p (reordered_of p order polygons)

-- Rule K7 (the second edge pass): the polygons with their links where there is a tree
abbrev pub linked_if : Build → ℕ → List ℕ → List ℕ
linked_if (Ok t) p out = linked p out
linked_if (Err why) p out = out

pub record Sorted (r : Build) (p : ℕ) (numbers order out out' sorted sorted' : List ℕ) : Type 0 where
  pub linked_are : out' ≡ linked_if r p out
  pub numbers_are : sorted' ≡ kept r (in_order (take p order) numbers) sorted
