-- The numbers that the lists and queries are drawn by, and the boxes and sums that are put together by hand. Definitions only.
use Rattle.std.specs.Prelude.{ℕ, zero, suc, ◌+◌, ◌*◌, ◌/◌, ◌%◌, ◌^◌, Bool, cond, ◌&&◌, List, [], ◌∷◌, ◌++◌, ◌==◌, from_bits, nat_lt, Float}
use Rattle.std.specs.Float.{binary32}
use Rattle.std.specs.Float.Ieee.{neg}
use Rattle.float32.specs.Counts.{of_count}
use Rattle.math.specs.declared.vec3.Vec3.{Vec3}
use Rattle.math.specs.declared.aabb.Aabb.{Aabb}
use Rattle.math.specs.Stored.{bits_of}
use Rattle.math.specs.Vec3s.{add_of, scale_of, vadd_of, ◌⊗◌}
use Rattle.entries.specs.Boxes.{box_at, box_words}
use Rattle.entries.specs.declared.boxes.BoxWords.{BoxWords}
use Rattle.tree.specs.Pair.{box_values}
use Rattle.pairs.specs.declared.draw.Shape.{Shape}
use Rattle.pairs.specs.declared.tally.Tally.{Tally}

-- A linear congruence, modulo 2 to the 32.
abbrev pub next_of : ℕ → ℕ
next_of s = (s * 1664525 + 1013904223) % 4294967296

abbrev pub three_on : ℕ → ℕ
three_on s = next_of (next_of (next_of s))

-- The upper half of a number, modulo n; 0 where n is 0.
abbrev pub below_of : ℕ → ℕ → ℕ
below_of s n = cond (n == 0) 0 (s / 65536 % n)

unfoldable pub whole_of : ℕ → ℕ → Float
whole_of s n = of_count (below_of s n)

-- By the three numbers after s.
unfoldable pub corner_of : ℕ → ℕ → ℕ → ℕ → Vec3
corner_of s x y z = record { x = whole_of (next_of s) x; y = whole_of (next_of (next_of s)) y; z = whole_of (three_on s) z }

-- 100 less than a corner that is drawn
unfoldable pub least_of : ℕ → Shape → Vec3
least_of s shape = vadd_of (corner_of s shape.span shape.span shape.depth) (neg (from_bits binary32 0x42c8_0000))

-- By the six numbers after s: a least corner and three sides, each times the grain.
unfoldable pub drawn_box : ℕ → Shape → Aabb
drawn_box s shape =
    record {
      min = scale_of (least_of s shape) shape.grain;
      max = scale_of (add_of (least_of s shape) (corner_of (three_on s) shape.side shape.side shape.side)) shape.grain;
    }

-- Of `absent` entries one is absent; none where that is 0.
abbrev pub is_absent : ℕ → ℕ → Bool
is_absent s absent = nat_lt 0 absent && below_of s absent == 0

abbrev pub presence_of : ℕ → ℕ → ℕ
presence_of s absent = cond (is_absent s absent) 0 1

abbrev pub box_bits : Aabb → BoxWords
box_bits b = record { min = bits_of b.min; max = bits_of b.max }

-- The seven words of an entry whose first number is s.
unfoldable pub entry_words : Shape → ℕ → List ℕ
entry_words shape s = presence_of s shape.absent ∷ box_words (box_bits (drawn_box s shape))

-- The number after n entries: each takes seven.
abbrev pub entries_on : ℕ → ℕ → ℕ
entries_on s zero = s
entries_on s (suc n) = three_on (three_on (next_of (entries_on s n)))

-- The words of the first n entries, from the numbers after the seed.
abbrev pub drawn_entries : Shape → ℕ → List ℕ
drawn_entries shape zero = []
drawn_entries shape (suc n) = drawn_entries shape n ++ entry_words shape (next_of (entries_on shape.seed n))

-- The same on each axis.
abbrev pub cube_of : Float → Float → Aabb
cube_of lo hi = record { min = record { x = lo; y = lo; z = lo }; max = record { x = hi; y = hi; z = hi } }

-- Infinite, inverted and infinite, half infinite, with no number, around all boxes, and beyond them.
unfoldable pub wide_of : ℕ → Float → Aabb
wide_of k grain =
    let infinity = from_bits binary32 0x7f80_0000 in
    let least = from_bits binary32 0xff80_0000 in
    let nan = from_bits binary32 0x7fc0_0000 in
    let far = from_bits binary32 0x47c3_5000 ⊗ grain in
    cond (k == 0) (cube_of least infinity)
    (cond (k == 1) (cube_of infinity least)
    (cond (k == 2) (cube_of least (from_bits binary32 0))
    (cond (k == 3) (cube_of nan nan)
    (cond (k == 4) (cube_of (neg (from_bits binary32 0x447a_0000) ⊗ grain) far)
    (cube_of far (from_bits binary32 0x4843_5000 ⊗ grain))))))

abbrev pub between : Vec3 → Vec3 → Aabb
between lo hi = record { min = lo; max = hi }

-- A box itself, one that touches its greatest corner and one that touches its least, the box inverted, and each of the two corners.
unfoldable pub at_box : ℕ → Aabb → Float → Aabb
at_box k near grain =
    let lo = near.min in
    let hi = near.max in
    cond (k == 6) near
    (cond (k == 7) (between hi (vadd_of hi grain))
    (cond (k == 8) (between (vadd_of lo (neg grain)) lo)
    (cond (k == 9) (between hi lo)
    (cond (k == 10) (between lo lo)
    (between hi hi)))))

-- Query k over the words of a list: of the first kind, at the box of an entry that is drawn, or drawn as the list's boxes are.
unfoldable pub query_box : ℕ → List ℕ → Shape → ℕ → Aabb
query_box k words shape s =
    cond (nat_lt k 6) (wide_of k shape.grain)
    (cond (nat_lt k 12) (at_box k (box_values (box_at words (below_of (next_of s) shape.n))) shape.grain)
    (drawn_box s shape))

-- Nothing counted but so many failures.
abbrev pub failed : ℕ → Tally
failed n = record { nodes = 0; trees = 0; handed = 0; meeting = 0; reads = 0; missed = 0; twice = 0; failures = n }

-- Modulo 2 to the 64.
abbrev pub plus : ℕ → ℕ → ℕ
plus a b = (a + b) % 2 ^ 64

-- The sums, of the same tree.
abbrev pub together : Tally → Tally → Tally
together t q =
    record {
      nodes = q.nodes;
      trees = q.trees;
      handed = plus t.handed q.handed;
      meeting = plus t.meeting q.meeting;
      reads = plus t.reads q.reads;
      missed = plus t.missed q.missed;
      twice = plus t.twice q.twice;
      failures = plus t.failures q.failures;
    }
