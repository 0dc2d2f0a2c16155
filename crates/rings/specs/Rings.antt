-- Rule S4 (bounds.rs, shrink_polys_by_margin: neighbour): the polygons around a vertex, walked from one to the next over their links. Definitions only.
use Rattle.std.specs.Prelude.{ℕ, zero, suc, ◌*◌, ◌/◌, cond, List, [], ◌∷◌, eqb, get_or}
use Rattle.base.specs.Lists.{sift, up_from}
use Rattle.corners.specs.Corners.{none, next_of}
use Rattle.rings.specs.declared.ring.Walker.{Walker}
use Rattle.rings.specs.Firsts.{no_side, first_or_no_side}

-- Rule S4 (`for j in 0..3`): the first side of polygon p that leads to vertex v.
abbrev pub side_to : List ℕ → ℕ → ℕ → ℕ
side_to cs p v = first_or_no_side (sift (λ s. eqb (get_or cs (next_of s) 0) v) (up_from (3 * p) 3))

-- Rule S4 (new_neighbour): the link of side s, or the next side's where that leads back.
abbrev pub other_link : List ℕ → ℕ → ℕ → ℕ
other_link links s prev = cond (eqb (get_or links s 0) prev) (get_or links (next_of s) 0) (get_or links s 0)

-- the ring is closed where it comes back to the polygon of its start
abbrev pub arrived : ℕ → ℕ → ℕ → Walker
arrived poly from to = record { prev = from; at = cond (eqb to poly) none to }

-- Rule S4: one polygon further; a polygon without the vertex is not left.
unfoldable pub onward : List ℕ → List ℕ → ℕ → ℕ → Walker → Walker
onward cs links v poly w =
    let s = side_to cs w.at v in
    cond (eqb s no_side) w (arrived poly w.at (other_link links s w.prev))

-- Rule S4: at most `left` polygons, from the walker on.
unfoldable pub ring_from : List ℕ → List ℕ → ℕ → ℕ → ℕ → Walker → List ℕ
unfolding onward
ring_from cs links v poly zero w = []
ring_from cs links v poly (suc left) w =
    cond (eqb w.at none) [] (w.at ∷ ring_from cs links v poly left (onward cs links v poly w))

-- Rule S4 (`tedges[(pvi + 2) % 3]`, else `tedges[pvi]`): over the side before s, or where it has no link over s.
abbrev pub first_link : List ℕ → ℕ → ℕ
first_link links s = cond (eqb (get_or links (next_of (next_of s)) 0) none) (get_or links s 0) (get_or links (next_of (next_of s)) 0)

-- Rule S4: the ring of vertex v, whose first side is s: at most 63 polygons.
unfoldable pub ring_of : List ℕ → List ℕ → ℕ → ℕ → List ℕ
unfolding ring_from
ring_of cs links v s = ring_from cs links v (s / 3) 63 (record { prev = s / 3; at = first_link links s })
