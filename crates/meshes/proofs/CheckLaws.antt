-- What each check that fails answers, and what holds of a mesh that passes them. Assumes nothing.
use Prim.Native.Nat.{ℕ, ◌+◌, ◌*◌, ◌≤◌}
use native.Mathlib.Omega.{arith}
use mathlib.Core.Bool.{Bool, true, false, cond, ◌||◌}
use mathlib.Core.List.{List}
use mathlib.Core.Path.{◌≡◌, refl, sym, ap, ◌∙◌}
use borrow.Author.Tests.{ltb-false, eqb-true}
use lib.Dec.{ltb}
use Rattle.std.specs.Prelude.{Result, Ok, Err, ⊤}
use Rattle.base.proofs.Truth.{neither}
use Rattle.corners.specs.Corners.{kinds_known}
use Rattle.meshes.specs.declared.Bound.{Bound}
use Rattle.meshes.specs.declared.Counts.{Counts}
use Rattle.meshes.specs.declared.Lengths.{Lengths}
use Rattle.meshes.specs.declared.kind.Kind.{Kind}
use Rattle.meshes.specs.declared.kind.Kind.TheVariants.{Geometry, Bvh}
use Rattle.meshes.specs.declared.PrepareRefusal.{PrepareRefusal}
use Rattle.meshes.specs.declared.PrepareRefusal.TheVariants.{UnknownKind, TooMany, BufferTooShort, UnknownPolygon, TooManyMaterials, InfiniteMargin, TooManyNodes}
use Rattle.meshes.specs.Checks.{is_geometry, is_bvh, many, full, endless, check_within, check_in, geometry_check, bvh_check, kind_of, check_as, refusal_number}
use Rattle.meshes.specs.Sizes.{inputs_short, lists_short, hull_short, tree_short, words_short, floats_short, short}
use Rattle.meshes.specs.Steps.Few.{Few}

-- ---- the sizes

pub few : (c : Counts) → many c ≡ false → Few c
few c e =
    let e₁ = neither _ (ltb 32768 c.vertices) e in
    let e₀ = neither (ltb 32767 c.polygons) (ltb 256 c.materials) e₁.0 in
    record {
      polygons_few = ltb-false 32767 c.polygons e₀.0;
      materials_few = ltb-false 256 c.materials e₀.1;
      vertices_few = ltb-false 32768 c.vertices e₁.1;
    }

-- No buffer is too short.
pub record Enough (c : Counts) (l : Lengths) : Type 0 where
  pub for_polygons : 16 * c.polygons ≤ l.polygons
  pub for_numbers : c.polygons ≤ l.numbers
  pub for_mats : 2 * c.materials ≤ l.mats
  pub for_vertices : 3 * c.vertices ≤ l.vertices
  pub for_list : 2048 ≤ l.list
  pub for_indices : c.polygons ≤ l.indices
  pub for_out : 16 * c.polygons ≤ l.polygons_out
  pub for_stored : 6 * c.vertices ≤ l.stored
  pub for_floats : 3 * c.vertices ≤ l.floats
  pub for_shrunk : 6 * c.vertices ≤ l.shrunk
  pub for_shrunk_floats : 3 * c.vertices ≤ l.shrunk_floats
  pub for_octants : 8 * c.vertices ≤ l.octants
  pub for_nodes : 16 * (2 * c.polygons + 1) ≤ l.node_bytes
  pub for_trees : 16 * (2 * c.polygons + 1) ≤ l.tree_bytes
  pub for_order : c.polygons ≤ l.order
  pub for_entries : 7 * c.polygons + 4 * c.vertices ≤ l.entries
  pub for_places : 3 * c.polygons + 3 * c.vertices ≤ l.places
  pub for_temp : 3 * c.polygons + c.vertices ≤ l.temp
  pub for_stack : 3 * c.polygons + c.vertices ≤ l.stack
  pub for_rows : 16 * c.polygons + 8 + c.vertices ≤ l.rows
  pub for_points : 3 * c.vertices ≤ l.points
  pub for_sorted : c.polygons ≤ l.sorted
  pub for_centres : 4 * c.polygons ≤ l.centres
  pub for_olds : 9 * c.polygons ≤ l.olds
  pub for_news : 9 * c.polygons ≤ l.news

-- none of three, of four and of five tests
three_off : (a b c : Bool) → a || b || c ≡ false → (a ≡ false) × (b ≡ false) × (c ≡ false)
three_off a b c e = let f = neither _ c e in let g = neither a b f.0 in (g.0, g.1, f.1)

four_off : (a b c d : Bool) → a || b || c || d ≡ false → (a ≡ false) × (b ≡ false) × (c ≡ false) × (d ≡ false)
four_off a b c d e = let f = neither _ d e in let g = three_off a b c f.0 in (g.0, g.1, g.2, f.1)

five_off : (a b c d e : Bool) → a || b || c || d || e ≡ false → (a ≡ false) × (b ≡ false) × (c ≡ false) × (d ≡ false) × (e ≡ false)
five_off a b c d e h = let f = neither _ e h in let g = four_off a b c d f.0 in (g.0, g.1, g.2, g.3, f.1)

module _ (c : Counts) (l : Lengths) where
  abbrev p : ℕ
  p = c.polygons

  abbrev v : ℕ
  v = c.vertices

  pub enough : short c l ≡ false → Enough c l
  unfolding short
  enough e =
      let f = neither _ (floats_short c l) e in
      let s = five_off (inputs_short c l) (lists_short c l) (hull_short c l) (tree_short c l) (words_short c l) f.0 in
      let i = four_off (ltb l.polygons (16 * p)) (ltb l.numbers p) (ltb l.mats (2 * c.materials)) (ltb l.vertices (3 * v)) s.0 in
      let o =
      five_off (ltb l.list 2048) (ltb l.indices p) (ltb l.polygons_out (16 * p)) (ltb l.stored (6 * v)) (ltb l.floats (3 * v))
      s.1 in
      let h = three_off (ltb l.shrunk (6 * v)) (ltb l.shrunk_floats (3 * v)) (ltb l.octants (8 * v)) s.2 in
      let t = three_off (ltb l.node_bytes (16 * (2 * p + 1))) (ltb l.tree_bytes (16 * (2 * p + 1))) (ltb l.order p) s.3 in
      let w =
      five_off (ltb l.entries (7 * p + 4 * v)) (ltb l.places (3 * p + 3 * v)) (ltb l.temp (3 * p + v)) (ltb l.stack (3 * p + v))
      (ltb l.rows (16 * p + 8 + v)) s.4 in
      let r =
      five_off (ltb l.points (3 * v)) (ltb l.sorted p) (ltb l.centres (4 * p)) (ltb l.olds (9 * p)) (ltb l.news (9 * p)) f.1 in
      record {
        for_polygons = ltb-false _ _ i.0;
        for_numbers = ltb-false _ _ i.1;
        for_mats = ltb-false _ _ i.2;
        for_vertices = ltb-false _ _ i.3;
        for_list = ltb-false _ _ o.0;
        for_indices = ltb-false _ _ o.1;
        for_out = ltb-false _ _ o.2;
        for_stored = ltb-false _ _ o.3;
        for_floats = ltb-false _ _ o.4;
        for_shrunk = ltb-false _ _ h.0;
        for_shrunk_floats = ltb-false _ _ h.1;
        for_octants = ltb-false _ _ h.2;
        for_nodes = ltb-false _ _ t.0;
        for_trees = ltb-false _ _ t.1;
        for_order = ltb-false _ _ t.2;
        for_entries = ltb-false _ _ w.0;
        for_places = ltb-false _ _ w.1;
        for_temp = ltb-false _ _ w.2;
        for_stack = ltb-false _ _ w.3;
        for_rows = ltb-false _ _ w.4;
        for_points = ltb-false _ _ r.0;
        for_sorted = ltb-false _ _ r.1;
        for_centres = ltb-false _ _ r.2;
        for_olds = ltb-false _ _ r.3;
        for_news = ltb-false _ _ r.4;
      }

-- ---- the refusals' numbers

-- None is 0, which is told where nothing is refused.
pub never_zero : (why : PrepareRefusal) → refusal_number why ≡ 0 → ⊥
never_zero UnknownKind e = omega arith
never_zero TooMany e = omega arith
never_zero BufferTooShort e = omega arith
never_zero UnknownPolygon e = omega arith
never_zero TooManyMaterials e = omega arith
never_zero InfiniteMargin e = omega arith
never_zero TooManyNodes e = omega arith

-- ---- the kinds, by their numbers

abbrev kind_by : Bool → Bool → Result Kind PrepareRefusal
kind_by four eight = cond four (Ok Geometry) (cond eight (Ok Bvh) (Err UnknownKind))

none_known : (a b : Bool) (why : PrepareRefusal) → kind_by a b ≡ Err why → (a || b ≡ false) × (b ≡ false) × (a ≡ false) × (UnknownKind ≡ why)
none_known true b why e = cc
none_known false true why e = cc
none_known false false why e = (refl, refl, refl, cc)

one_known : (a b : Bool) (kind : Kind) → kind_by a b ≡ Ok kind → a || b ≡ true
one_known true b kind e = refl
one_known false true kind e = refl
one_known false false kind e = cc

is_four : (a b : Bool) → kind_by a b ≡ Ok Geometry → a ≡ true
is_four true b e = refl
is_four false true e = cc
is_four false false e = cc

not_four : (a b : Bool) → kind_by a b ≡ Ok Bvh → a ≡ false
not_four true b e = cc
not_four false b e = refl

other_eight : (a b : Bool) (kind : Kind) → kind_by a b ≡ Ok kind → (kind ≡ Geometry → ⊥) → b ≡ true
other_eight true b kind e other = let same : kind ≡ Geometry = cc in absurd (other same)
other_eight false true kind e other = refl
other_eight false false kind e other = cc

other_four : (a b : Bool) (kind : Kind) → kind_by a b ≡ Ok kind → (kind ≡ Bvh → ⊥) → a ≡ true
other_four true b kind e other = refl
other_four false true kind e other = let same : kind ≡ Bvh = cc in absurd (other same)
other_four false false kind e other = cc

pub known_number : (n : ℕ) (kind : Kind) → kind_of n ≡ Ok kind → is_geometry n || is_bvh n ≡ true
known_number n kind = one_known (is_geometry n) (is_bvh n) kind

-- ---- the checks, by their tests

abbrev within : Bool → Bool → Bool → Result ⊤ PrepareRefusal
within known full endless = cond known (cond full (Err TooManyMaterials) (cond endless (Err InfiniteMargin) (Ok tt))) (Err UnknownPolygon)

abbrev whole : Bool → Bool → Bool → Result ⊤ PrepareRefusal → Result ⊤ PrepareRefusal
whole kind many short rest = cond kind (cond many (Err TooMany) (cond short (Err BufferTooShort) rest)) (Err UnknownKind)

module _ (k f e : Bool) where
  unknown_of : k ≡ false → Err UnknownPolygon ≡ within k f e
  unknown_of h = rw h

  full_of : k ≡ true → f ≡ true → Err TooManyMaterials ≡ within k f e
  full_of h i = rw (h, i)

  endless_of : k ≡ true → f ≡ false → e ≡ true → Err InfiniteMargin ≡ within k f e
  endless_of h i j = rw (h, i, j)

  passed_of : k ≡ true → f ≡ false → e ≡ false → Ok tt ≡ within k f e
  passed_of h i j = rw (h, i, j)

within_passed : (k f e : Bool) → within k f e ≡ Ok tt → (k ≡ true) × (f ≡ false) × (e ≡ false)
within_passed true false false h = (refl, refl, refl)
within_passed true false true h = cc
within_passed true true e h = cc
within_passed false f e h = cc

module _ (k m s : Bool) (x : Result ⊤ PrepareRefusal) where
  unknown_at : k ≡ false → Err UnknownKind ≡ whole k m s x
  unknown_at h = rw h

  many_of : k ≡ true → m ≡ true → Err TooMany ≡ whole k m s x
  many_of h i = rw (h, i)

  short_of : k ≡ true → m ≡ false → s ≡ true → Err BufferTooShort ≡ whole k m s x
  short_of h i j = rw (h, i, j)

  rest_of : k ≡ true → m ≡ false → s ≡ false → x ≡ whole k m s x
  rest_of h i j = rw (h, i, j)

whole_passed : (k m s : Bool) (x : Result ⊤ PrepareRefusal) → whole k m s x ≡ Ok tt → (k ≡ true) × (m ≡ false) × (s ≡ false) × (x ≡ Ok tt)
whole_passed true false false x h = (refl, refl, refl, h)
whole_passed true false true x h = cc
whole_passed true true s x h = cc
whole_passed false m s x h = cc

-- ---- the checks that read the mesh

module _ (b : Bound) (c : Counts) (polygons ms : List ℕ) where
  pub unknown_polygon : kinds_known c.polygons polygons ≡ false → Err UnknownPolygon ≡ check_within b c polygons ms
  unfolding check_within
  unknown_polygon = unknown_of (kinds_known c.polygons polygons) (full ms) (endless b c.vertices)

  pub too_full : kinds_known c.polygons polygons ≡ true → full ms ≡ true → Err TooManyMaterials ≡ check_within b c polygons ms
  unfolding check_within
  too_full = full_of (kinds_known c.polygons polygons) (full ms) (endless b c.vertices)

  pub no_end : kinds_known c.polygons polygons ≡ true → full ms ≡ false → endless b c.vertices ≡ true
      → Err InfiniteMargin ≡ check_within b c polygons ms
  unfolding check_within
  no_end = endless_of (kinds_known c.polygons polygons) (full ms) (endless b c.vertices)

  pub all_well : kinds_known c.polygons polygons ≡ true → full ms ≡ false → endless b c.vertices ≡ false
      → Ok tt ≡ check_within b c polygons ms
  unfolding check_within
  all_well = passed_of (kinds_known c.polygons polygons) (full ms) (endless b c.vertices)

-- ---- all of them

-- What holds of a mesh that passes the checks.
pub record Sound (b : Bound) (c : Counts) (l : Lengths) (polygons ms : List ℕ) : Type 0 where
  pub kind : is_geometry b.kind || is_bvh b.kind ≡ true
  pub few : Few c
  pub enough : Enough c l
  pub known : kinds_known c.polygons polygons ≡ true
  pub not_full : full ms ≡ false
  pub ends : endless b c.vertices ≡ false

module _ (b : Bound) (c : Counts) (l : Lengths) (polygons ms : List ℕ) where
  abbrev either : Bool
  either = is_geometry b.kind || is_bvh b.kind

  pub unknown_kind : is_geometry b.kind || is_bvh b.kind ≡ false → Err UnknownKind ≡ check_in b c l polygons ms
  unfolding check_in
  unknown_kind = unknown_at either (many c) (short c l) (check_within b c polygons ms)

  pub unknown_number : (why : PrepareRefusal) → kind_of b.kind ≡ Err why → Err why ≡ check_in b c l polygons ms
  unknown_number why e = let n = none_known (is_geometry b.kind) (is_bvh b.kind) why e in ap Err (sym n.3) ∙ unknown_kind n.0

  pub too_many : is_geometry b.kind || is_bvh b.kind ≡ true → many c ≡ true → Err TooMany ≡ check_in b c l polygons ms
  unfolding check_in
  too_many = many_of either (many c) (short c l) (check_within b c polygons ms)

  pub too_small : is_geometry b.kind || is_bvh b.kind ≡ true → many c ≡ false → short c l ≡ true → Err BufferTooShort ≡ check_in b c l polygons ms
  unfolding check_in
  too_small = short_of either (many c) (short c l) (check_within b c polygons ms)

  pub rest : is_geometry b.kind || is_bvh b.kind ≡ true → many c ≡ false → short c l ≡ false → check_within b c polygons ms ≡ check_in b c l polygons ms
  unfolding check_in
  rest = rest_of either (many c) (short c l) (check_within b c polygons ms)

  pub sound : check_in b c l polygons ms ≡ Ok tt → Sound b c l polygons ms
  unfolding check_in check_within
  sound e =
      let w = whole_passed either (many c) (short c l) (check_within b c polygons ms) e in
      let i = within_passed (kinds_known c.polygons polygons) (full ms) (endless b c.vertices) w.3 in
      record { kind = w.0; few = few c w.1; enough = enough c l w.2; known = i.0; not_full = i.1; ends = i.2 }

-- ---- of one kind

own : (t : Bool) (x : Result ⊤ PrepareRefusal) → t ≡ false → x ≡ cond t (Err UnknownKind) x
own t x h = rw h

own_passed : (t : Bool) (x : Result ⊤ PrepareRefusal) → cond t (Err UnknownKind) x ≡ Ok tt → (t ≡ false) × (x ≡ Ok tt)
own_passed true x h = cc
own_passed false x h = (refl, h)

module _ (b : Bound) (c : Counts) (l : Lengths) (polygons ms : List ℕ) where
  pub geometry_own : is_bvh b.kind ≡ false → check_in b c l polygons ms ≡ geometry_check b c l polygons ms
  unfolding geometry_check
  geometry_own = own (is_bvh b.kind) (check_in b c l polygons ms)

  pub bvh_own : is_geometry b.kind ≡ false → check_in b c l polygons ms ≡ bvh_check b c l polygons ms
  unfolding bvh_check
  bvh_own = own (is_geometry b.kind) (check_in b c l polygons ms)

  -- by the kind that the bound names
  pub of_none : (kind : Kind) (why : PrepareRefusal) → kind_of b.kind ≡ Err why → Err why ≡ check_as kind b c l polygons ms
  unfolding check_in geometry_check bvh_check
  of_none Geometry why e = let n = none_known (is_geometry b.kind) (is_bvh b.kind) why e in ap Err (sym n.3) ∙ rw (n.1, n.2)
  of_none Bvh why e = let n = none_known (is_geometry b.kind) (is_bvh b.kind) why e in ap Err (sym n.3) ∙ rw (n.2, n.1)

  pub of_other : (kind named : Kind) → kind_of b.kind ≡ Ok named → (named ≡ kind → ⊥) → Err UnknownKind ≡ check_as kind b c l polygons ms
  unfolding geometry_check bvh_check
  of_other Geometry named e other = rw (other_eight (is_geometry b.kind) (is_bvh b.kind) named e other)
  of_other Bvh named e other = rw (other_four (is_geometry b.kind) (is_bvh b.kind) named e other)

  pub of_own : (kind : Kind) → kind_of b.kind ≡ Ok kind → check_in b c l polygons ms ≡ check_as kind b c l polygons ms
  of_own Geometry e = geometry_own (ap (λ (k : ℕ). is_bvh k) (eqb-true b.kind 4 (is_four (is_geometry b.kind) (is_bvh b.kind) e)))
  of_own Bvh e = bvh_own (not_four (is_geometry b.kind) (is_bvh b.kind) e)

  -- what passes is of the kind, and sound
  pub geometry_sound : geometry_check b c l polygons ms ≡ Ok tt → (is_bvh b.kind ≡ false) × Sound b c l polygons ms
  unfolding geometry_check
  geometry_sound e =
      let o = own_passed (is_bvh b.kind) (check_in b c l polygons ms) e in
      (o.0, sound b c l polygons ms o.1)

  pub bvh_sound : bvh_check b c l polygons ms ≡ Ok tt → (is_geometry b.kind ≡ false) × Sound b c l polygons ms
  unfolding bvh_check
  bvh_sound e =
      let o = own_passed (is_geometry b.kind) (check_in b c l polygons ms) e in
      (o.0, sound b c l polygons ms o.1)
