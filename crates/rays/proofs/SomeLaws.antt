-- Rule S6 over the polygons is rule S6 over the rows: `any_of` by numbers, and a test of either kind by each of its parts. By induction on the list.
use Prim.Native.Nat.{ℕ, zero, suc, ◌+◌, ◌*◌, ◌<◌}
use native.Mathlib.Omega.{arith}
use mathlib.Core.Path.{◌≡◌, refl, sym, ap, ap₂, ◌∙◌}
use mathlib.Core.Bool.{Bool, true, false, not, ◌&&◌, ◌||◌, true≢false}
use mathlib.Core.List.{List, [], ◌∷◌}
use lib.Dec.{eqb, leb}
use lib.ListN.{length, get_or}
use lib.Ieee.{eq}
use Rattle.base.specs.Lists.{up_from}
use Rattle.rays.specs.declared.rays.Ray.{Ray}
use Rattle.rays.specs.Checks.{any_of, triangles_of, missing, own_of, facet_over, way_back, stops, fails, passes}
use Rattle.rays.specs.Rays.{naught, facet_of, hits}
use Rattle.points.specs.Points.{vertex_at}
use Rattle.rays.specs.Steps.Checking.{on_the_way, missing_in, moved_in, fails_in, stopped_in}
use Rattle.rays.specs.Steps.Counting.{none_to}
use Rattle.rays.specs.Steps.Rows.{Laid}
use Rattle.rays.proofs.CountLaws.{some_at}

-- ---- none below n

pub none_same : (n : ℕ) (p q : ℕ → Bool) → ((k : ℕ) → k < n → p k ≡ q k) → none_to n p ≡ none_to n q
none_same zero p q h = refl
none_same (suc n) p q h = ap₂ (λ (x y : Bool). x && not y) (none_same n p q (λ k l. h k (omega arith))) (h n (omega arith))

and_assoc : (a b c : Bool) → (a && b) && c ≡ a && (b && c)
and_assoc true b c = refl
and_assoc false b c = refl

and_true : (a : Bool) → a ≡ a && true
and_true true = refl
and_true false = refl

-- the first m, and the n behind them
none_parts : (m n : ℕ) (p : ℕ → Bool) → none_to (m + n) p ≡ none_to m p && none_to n (λ k. p (m + k))
none_parts m zero p = let e : m + 0 ≡ m = omega arith in ap (λ (k : ℕ). none_to k p) e ∙ and_true (none_to m p)
none_parts m (suc n) p =
    let e : m + suc n ≡ suc (m + n) = omega arith in
    ap (λ (k : ℕ). none_to k p) e
    ∙ ap (λ (b : Bool). b && not (p (m + n))) (none_parts m n p)
    ∙ and_assoc (none_to m p) (none_to n (λ k. p (m + k))) (not (p (m + n)))

-- ---- some of a list

neither : (a b : Bool) → not a && not b ≡ not (a || b)
neither true b = refl
neither false b = refl

not_not : (a : Bool) → not (not a) ≡ a
not_not true = refl
not_not false = refl

none_of : (test : ℕ → Bool) (xs : List ℕ) → none_to (length xs) (λ k. test (get_or xs k 0)) ≡ not (any_of test xs)
none_of test [] = refl
none_of test (x ∷ xs) =
    let e : suc (length xs) ≡ 1 + length xs = omega arith in
    ap (λ (k : ℕ). none_to k (λ k. test (get_or (x ∷ xs) k 0))) e
    ∙ none_parts 1 (length xs) (λ k. test (get_or (x ∷ xs) k 0))
    ∙ ap (λ (b : Bool). not (test x) && b)
    (none_same (length xs) (λ k. test (get_or (x ∷ xs) (1 + k) 0)) (λ k. test (get_or xs k 0))
    (λ k l. let s : 1 + k ≡ suc k = omega arith in ap (λ (j : ℕ). test (get_or (x ∷ xs) j 0)) s) ∙ none_of test xs)
    ∙ neither (test x) (any_of test xs)

none_by : (test : ℕ → Bool) (xs : List ℕ) (n : ℕ) (q : ℕ → Bool) → n ≡ length xs → ((k : ℕ) → k < n → q k ≡ test (get_or xs k 0))
    → none_to n q ≡ not (any_of test xs)
none_by test xs n q e h =
    none_same n q (λ k. test (get_or xs k 0)) h ∙ ap (λ (m : ℕ). none_to m (λ k. test (get_or xs k 0))) e ∙ none_of test xs

none_up : (test : ℕ → Bool) (at n : ℕ) → none_to n (λ k. test (at + k)) ≡ not (any_of test (up_from at n))
none_up test at zero = refl
none_up test at (suc n) =
    let e : suc n ≡ 1 + n = omega arith in
    let z : at + 0 ≡ at = omega arith in
    ap (λ (k : ℕ). none_to k (λ k. test (at + k))) e
    ∙ none_parts 1 n (λ k. test (at + k))
    ∙ ap₂ (λ (a b : Bool). not a && b) (ap test z)
    (none_same n (λ k. test (at + (1 + k))) (λ k. test (at + 1 + k)) (λ k l. let s : at + (1 + k) ≡ at + 1 + k = omega arith in ap test s)
    ∙ none_up test (at + 1) n)
    ∙ neither (test at) (any_of test (up_from (at + 1) n))

-- either of two tests
swap_or : (a b c d : Bool) → (a || b) || (c || d) ≡ (a || c) || (b || d)
swap_or true b c d = refl
swap_or false true true d = refl
swap_or false true false d = refl
swap_or false false true d = refl
swap_or false false false d = refl

any_or : (p q : ℕ → Bool) (xs : List ℕ) → any_of p xs || any_of q xs ≡ any_of (λ k. p k || q k) xs
any_or p q [] = refl
any_or p q (x ∷ xs) = swap_or (p x) (any_of p xs) (q x) (any_of q xs) ∙ ap (λ (b : Bool). (p x || q x) || b) (any_or p q xs)

any_same : (p q : ℕ → Bool) → ((k : ℕ) → p k ≡ q k) → (xs : List ℕ) → any_of p xs ≡ any_of q xs
any_same p q h [] = refl
any_same p q h (x ∷ xs) = ap₂ (λ (a b : Bool). a || b) (h x) (any_same p q h xs)

-- a hit of a triangle that is not the vertex's own, in the order of the rule
by_own : (a b o : Bool) → (a && not o) || (b && not o) ≡ not o && (a || b)
by_own true true true = refl
by_own true true false = refl
by_own true false true = refl
by_own true false false = refl
by_own false true true = refl
by_own false true false = refl
by_own false false true = refl
by_own false false false = refl

-- a vertex that moved and is stopped by either
one_suffices : (m a b : Bool) → m && a ≡ true → m && (a || b) ≡ true
one_suffices true true b e = refl
one_suffices true false b e = absurd (true≢false (sym e))
one_suffices false a b e = e

-- ---- the rows hold the triangles

module _ {cs : List ℕ} {n : ℕ} {tri : List ℕ} {t : ℕ} (laid : Laid cs n tri t) where
  -- what is a function of a triangle's three corners
  of_corners : {A : Type 0} (f : ℕ → ℕ → ℕ → A) (k : ℕ) → k < t
      → f (get_or tri k 0) (get_or tri (t + k) 0) (get_or tri (2 * t + k) 0)
      ≡ f (get_or cs (3 * get_or (triangles_of cs n) k 0) 0) (get_or cs (3 * get_or (triangles_of cs n) k 0 + 1) 0) (get_or cs (3 * get_or (triangles_of cs n) k 0 + 2) 0)
  of_corners f k h i = f (laid.first k h i) (laid.second k h i) (laid.third k h i)

  -- a triangle over the vertices ws is on the way
  some_on_the_way : (ws : List ℕ) (i : ℕ) (ray : Ray)
      → not (none_to t (on_the_way tri t ws i ray)) ≡ any_of (λ p. hits ray (facet_over cs ws p) && not (own_of cs i p)) (triangles_of cs n)
  some_on_the_way ws i ray =
      let on : ℕ → ℕ → ℕ → Bool =
      λ a b c. hits ray (facet_of (vertex_at ws a) (vertex_at ws b) (vertex_at ws c)) && not (eqb a i || (eqb b i || eqb c i)) in
      ap not
      (none_by (λ p. hits ray (facet_over cs ws p) && not (own_of cs i p)) (triangles_of cs n) t (on_the_way tri t ws i ray) laid.count (of_corners on))
      ∙ not_not (any_of (λ p. hits ray (facet_over cs ws p) && not (own_of cs i p)) (triangles_of cs n))

  -- a corner in one of the three rows is missing
  pub some_missing : (v : ℕ) → missing_in tri t v ≡ any_of (missing cs v) (triangles_of cs n)
  some_missing v =
      let ts = triangles_of cs n in
      let past : ℕ → Bool = λ k. leb v (get_or tri k 0) in
      let a : ℕ → Bool = λ p. leb v (get_or cs (3 * p) 0) in
      let b : ℕ → Bool = λ p. leb v (get_or cs (3 * p + 1) 0) in
      let c : ℕ → Bool = λ p. leb v (get_or cs (3 * p + 2) 0) in
      let three : 3 * t ≡ t + (t + t) = omega arith in
      let first : none_to t past ≡ not (any_of a ts) = none_by a ts t past laid.count (λ k h. ap (leb v) (laid.first k h)) in
      let second : none_to t (λ k. past (t + k)) ≡ not (any_of b ts) =
      none_by b ts t (λ k. past (t + k)) laid.count (λ k h. ap (leb v) (laid.second k h)) in
      let third : none_to t (λ k. past (t + (t + k))) ≡ not (any_of c ts) =
      none_by c ts t (λ k. past (t + (t + k))) laid.count
      (λ k h. let at : t + (t + k) ≡ 2 * t + k = omega arith in ap past at ∙ ap (leb v) (laid.third k h)) in
      let parts : none_to (3 * t) past ≡ none_to t past && (none_to t (λ k. past (t + k)) && none_to t (λ k. past (t + (t + k)))) =
      ap (λ (m : ℕ). none_to m past) three ∙ none_parts t (t + t) past
      ∙ ap (λ (x : Bool). none_to t past && x) (none_parts t t (λ k. past (t + k))) in
      let both : none_to t (λ k. past (t + k)) && none_to t (λ k. past (t + (t + k))) ≡ not (any_of (λ p. b p || c p) ts) =
      ap₂ (λ (x y : Bool). x && y) second third ∙ neither (any_of b ts) (any_of c ts) ∙ ap not (any_or b c ts) in
      ap not (parts ∙ ap₂ (λ (x y : Bool). x && y) first both ∙ neither (any_of a ts) (any_of (λ p. b p || c p) ts) ∙ ap not (any_or a (λ p. b p || c p) ts))
      ∙ not_not (any_of (missing cs v) ts)

  module _ (old new : List ℕ) (v : ℕ) where
    stopped : (i : ℕ) (ray : Ray)
        → missing_in tri t v || (not (none_to t (on_the_way tri t old i ray)) || not (none_to t (on_the_way tri t new i ray)))
        ≡ any_of (stops cs v old new i ray) (triangles_of cs n)
    stopped i ray =
        let ts = triangles_of cs n in
        let over : List ℕ → ℕ → Bool = λ ws p. hits ray (facet_over cs ws p) && not (own_of cs i p) in
        let on : ℕ → Bool = λ p. not (own_of cs i p) && (hits ray (facet_over cs old p) || hits ray (facet_over cs new p)) in
        ap₂ (λ (x y : Bool). x || y) (some_missing v)
        (ap₂ (λ (x y : Bool). x || y) (some_on_the_way old i ray) (some_on_the_way new i ray)
        ∙ any_or (over old) (over new) ts
        ∙ any_same (λ p. over old p || over new p) on (λ p. by_own (hits ray (facet_over cs old p)) (hits ray (facet_over cs new p)) (own_of cs i p)) ts)
        ∙ any_or (missing cs v) on ts

    fails_by_rows : missing_in tri t v ≡ false → (i : ℕ) → fails_in tri t old new i ≡ fails cs n old new v i
    unfolding fails_in fails
    fails_by_rows none i =
        let ray = way_back (vertex_at old i) (vertex_at new i) in
        let on = not (none_to t (on_the_way tri t old i ray)) || not (none_to t (on_the_way tri t new i ray)) in
        ap (λ (b : Bool). not (eq ray.length naught) && b) (ap (λ (b : Bool). b || on) (sym none) ∙ stopped i ray)

    -- with a corner missing every vertex fails that moved
    fails_by_moving : missing_in tri t v ≡ true → (i : ℕ) → moved_in old new i ≡ fails cs n old new v i
    unfolding fails
    fails_by_moving some i =
        let ray = way_back (vertex_at old i) (vertex_at new i) in
        let on = not (none_to t (on_the_way tri t old i ray)) || not (none_to t (on_the_way tri t new i ray)) in
        and_true (not (eq ray.length naught))
        ∙ ap (λ (b : Bool). not (eq ray.length naught) && b) (ap (λ (b : Bool). b || on) (sym some) ∙ stopped i ray)

    passes_by : (p : ℕ → Bool) → ((i : ℕ) → p i ≡ fails cs n old new v i) → none_to v p ≡ passes cs n old new v
    unfolding passes
    passes_by p h =
        none_same v p (λ k. fails cs n old new v (0 + k)) (λ k l. h k ∙ (let z : k ≡ 0 + k = omega arith in ap (fails cs n old new v) z))
        ∙ none_up (fails cs n old new v) 0 v

    pub passes_by_rows : missing_in tri t v ≡ false → none_to v (fails_in tri t old new) ≡ passes cs n old new v
    passes_by_rows none = passes_by (fails_in tri t old new) (fails_by_rows none)

    -- Rule S6 with a corner missing: vertices pass only where none moved.
    pub passes_unmoved : missing_in tri t v ≡ true → none_to v (moved_in old new) ≡ passes cs n old new v
    passes_unmoved some = passes_by (moved_in old new) (fails_by_moving some)

    -- Rule S6: vertices do not pass where one of them is stopped by a triangle as it was.
    stopped_fails : (i : ℕ) → stopped_in tri t old (vertex_at new i) i ≡ true → fails_in tri t old new i ≡ true
    unfolding stopped_in fails_in
    stopped_fails i e =
        let ray = way_back (vertex_at old i) (vertex_at new i) in
        one_suffices (not (eq ray.length naught)) (not (none_to t (on_the_way tri t old i ray))) (not (none_to t (on_the_way tri t new i ray))) e

    pub stopped_passes_not : missing_in tri t v ≡ false → (i : ℕ) → i < v → stopped_in tri t old (vertex_at new i) i ≡ true → passes cs n old new v ≡ false
    stopped_passes_not none i h e = sym (passes_by_rows none) ∙ some_at v (fails_in tri t old new) i h (stopped_fails i e)
