-- The list of materials: a material that is in it keeps its place as the list grows, none stands there twice, and each polygon's is there;
-- so the values of bytes are at most 256. By induction on the materials.
use Prim.Native.Nat.{ℕ, zero, suc, ◌+◌, ◌≤◌, ◌<◌}
use native.Mathlib.Omega.{arith}
use mathlib.Core.Path.{◌≡◌, refl, sym, ap, ap₂, subst, ◌∙◌}
use mathlib.Core.Logic.{⊎_elim}
use mathlib.Core.Bool.{Bool, true, false, not, cond}
use mathlib.Core.List.{List, [], ◌∷◌, ◌++◌, map, map-append}
use lib.Dec.{eqb, ltb}
use lib.ListN.{length, get_or, length-append, length-map}
use borrow.Author.Tests.{eqb-true, eqb-false, eq-eqb, lt-ltb, le-ltb, ltb-true, ltb-false}
use Rattle.base.specs.Every.{Every}
use Rattle.base.specs.Lists.{sift, one_if, occurrences, Among, up_from, Below}
use Rattle.base.proofs.EveryLaws.{every_append}
use Rattle.base.proofs.ListLaws.{length_both, occurs_more, occurs_append, among_head, among_tail, among_cases}
use Rattle.base.proofs.NumberLaws.{length_up}
use Rattle.materials.specs.Materials.{place_in, admit, list_from, list_of, indices_of}

-- ---- where a material stands

pub place_most : (xs : List ℕ) (x : ℕ) → place_in xs x ≤ length xs
place_most [] x = omega arith
place_most (y ∷ ys) x = go (eqb y x) (place_most ys x)
  where
    go : (b : Bool) → place_in ys x ≤ length ys → cond b 0 (1 + place_in ys x) ≤ suc (length ys)
    go true h = omega arith
    go false h = omega arith

-- it stands where it stood, with more behind
place_append : (xs ys : List ℕ) (x : ℕ) → place_in xs x < length xs → place_in (xs ++ ys) x ≡ place_in xs x
place_append [] ys x h = absurd (omega arith)
place_append (z ∷ zs) ys x h = go (eqb z x) refl (place_append zs ys x)
  where
    go : (b : Bool) → eqb z x ≡ b → (place_in zs x < length zs → place_in (zs ++ ys) x ≡ place_in zs x)
        → cond b 0 (1 + place_in (zs ++ ys) x) ≡ cond b 0 (1 + place_in zs x)
    go true e f = refl
    go false e f =
        let k : 1 + place_in zs x < suc (length zs) = rw e at h in
        ap (λ (n : ℕ). 1 + n) (f (omega arith))

-- one that is not there stands at the end, once it is put there
place_last : (xs : List ℕ) (x : ℕ) → length xs ≤ place_in xs x → place_in (xs ++ (x ∷ [])) x ≡ length xs
place_last [] x h = rw (eq-eqb x x refl)
place_last (z ∷ zs) x h = go (eqb z x) refl (place_last zs x)
  where
    go : (b : Bool) → eqb z x ≡ b → (length zs ≤ place_in zs x → place_in (zs ++ (x ∷ [])) x ≡ length zs)
        → cond b 0 (1 + place_in (zs ++ (x ∷ [])) x) ≡ suc (length zs)
    go true e f = let k : suc (length zs) ≤ 0 = rw e at h in absurd (omega arith)
    go false e f = let k : suc (length zs) ≤ 1 + place_in zs x = rw e at h in omega (arith, f (omega arith))

-- ---- one more

pub admit_there : (xs : List ℕ) (x : ℕ) → place_in xs x < length xs → admit xs x ≡ xs
unfolding admit
admit_there xs x h = rw (lt-ltb (place_in xs x) (length xs) h)

pub admit_new : (xs : List ℕ) (x : ℕ) → length xs ≤ place_in xs x → admit xs x ≡ xs ++ (x ∷ [])
unfolding admit
admit_new xs x h = rw (le-ltb (place_in xs x) (length xs) h)

module _ (P : List ℕ → Type 0) (xs : List ℕ) (x : ℕ) where
  by_admitted : (place_in xs x < length xs → P xs) → (length xs ≤ place_in xs x → P (xs ++ (x ∷ []))) → P (admit xs x)
  by_admitted f g = go (ltb (place_in xs x) (length xs)) refl
    where
      go : (b : Bool) → ltb (place_in xs x) (length xs) ≡ b → P (admit xs x)
      go true e = let h = ltb-true (place_in xs x) (length xs) e in rw (admit_there xs x h) (f h)
      go false e = let h = ltb-false (place_in xs x) (length xs) e in rw (admit_new xs x h) (g h)

pub admit_length : (xs : List ℕ) (x : ℕ) → length xs ≤ length (admit xs x)
admit_length xs x = by_admitted (λ l. length xs ≤ length l) xs x (λ h. omega arith) (λ h. omega (arith, length-append xs (x ∷ [])))

-- those that are there stay where they are
pub place_kept : (xs : List ℕ) (x y : ℕ) → place_in xs y < length xs → place_in (admit xs x) y ≡ place_in xs y
place_kept xs x y h = by_admitted (λ l. place_in l y ≡ place_in xs y) xs x (λ k. refl) (λ k. place_append xs (x ∷ []) y h)

-- it stands where it was to be
pub place_own : (xs : List ℕ) (x : ℕ) → place_in (admit xs x) x ≡ place_in xs x
place_own xs x =
    by_admitted (λ l. place_in l x ≡ place_in xs x) xs x (λ h. refl) (λ h. omega (arith, place_last xs x h, place_most xs x))

pub place_in_lem : (xs : List ℕ) (x : ℕ) → place_in xs x < length (admit xs x)
place_in_lem xs x = by_admitted (λ l. place_in xs x < length l) xs x (λ h. h) (λ h. omega (arith, length-append xs (x ∷ []), place_most xs x))

-- ---- all of them

pub list_more : (xs ms : List ℕ) (m : ℕ) → list_from xs (ms ++ (m ∷ [])) ≡ admit (list_from xs ms) m
list_more xs [] m = refl
list_more xs (k ∷ ms) m = list_more (admit xs k) ms m

stays : (xs ms : List ℕ) (y : ℕ) → place_in xs y < length xs → place_in (list_from xs ms) y < length (list_from xs ms)
stays xs [] y h = h
stays xs (m ∷ ms) y h = stays (admit xs m) ms y (omega (arith, place_kept xs m y h, admit_length xs m))

listed_from : (xs ms : List ℕ) → Every (λ y. place_in (list_from xs ms) y < length (list_from xs ms)) ms
listed_from xs [] = tt
listed_from xs (m ∷ ms) = (stays (admit xs m) ms m (omega (arith, place_own xs m, place_in_lem xs m)), listed_from (admit xs m) ms)

-- each polygon's material is in the list
pub all_listed : (ms : List ℕ) → Every (λ y. place_in (list_of ms) y < length (list_of ms)) ms
all_listed ms = listed_from [] ms

-- ---- the indices

places_kept : (xs : List ℕ) (x : ℕ) (ms : List ℕ) → Every (λ y. place_in xs y < length xs) ms → map (place_in (admit xs x)) ms ≡ map (place_in xs) ms
places_kept xs x [] w = refl
places_kept xs x (m ∷ ms) w = ap₂ (λ (a : ℕ) (l : List ℕ). a ∷ l) (place_kept xs x m w.0) (places_kept xs x ms w.1)

pub indices_more : (ms : List ℕ) (m : ℕ) → indices_of (ms ++ (m ∷ [])) ≡ indices_of ms ++ (place_in (list_of ms) m ∷ [])
indices_more ms m =
    let xs = list_of ms in
    ap (λ (l : List ℕ). map (place_in l) (ms ++ (m ∷ []))) (list_more [] ms m)
    ∙ map-append (place_in (admit xs m)) ms (m ∷ [])
    ∙ ap₂ (λ (l : List ℕ) (i : ℕ). l ++ (i ∷ [])) (places_kept xs m ms (all_listed ms)) (place_own xs m)

-- ---- what a place has

pub at_place : (xs : List ℕ) (x : ℕ) → place_in xs x < length xs → get_or xs (place_in xs x) 0 ≡ x
at_place [] x h = absurd (omega arith)
at_place (y ∷ ys) x h = go (eqb y x) refl (at_place ys x)
  where
    go : (b : Bool) → eqb y x ≡ b → (place_in ys x < length ys → get_or ys (place_in ys x) 0 ≡ x)
        → get_or (y ∷ ys) (cond b 0 (1 + place_in ys x)) 0 ≡ x
    go true e f = eqb-true y x e
    go false e f =
        let k : 1 + place_in ys x < suc (length ys) = rw e at h in
        let n : 1 + place_in ys x ≡ suc (place_in ys x) = omega arith in
        rw n (f (omega arith))

-- The material at a polygon's index in the list is the polygon's. So a second pass over any order of the polygons finds what one pass over
-- the given materials finds.
second : (xs ms : List ℕ) (p : ℕ) → Every (λ y. place_in xs y < length xs) ms → p < length ms → get_or xs (get_or (map (place_in xs) ms) p 0) 0 ≡ get_or ms p 0
second xs [] p w h = absurd (omega arith)
second xs (m ∷ ms) zero w h = at_place xs m w.0
second xs (m ∷ ms) (suc p) w h = second xs ms p w.1 (omega arith)

pub second_pass : (ms : List ℕ) (p : ℕ) → p < length ms → get_or (list_of ms) (get_or (indices_of ms) p 0) 0 ≡ get_or ms p 0
second_pass ms p h = second (list_of ms) ms p (all_listed ms) h

-- ---- none twice

pub absent : (xs : List ℕ) (x : ℕ) → length xs ≤ place_in xs x → occurrences x xs ≡ 0
absent [] x h = refl
absent (y ∷ ys) x h = go (eqb y x) refl (absent ys x)
  where
    go : (b : Bool) → eqb y x ≡ b → (length ys ≤ place_in ys x → occurrences x ys ≡ 0) → occurrences x (y ∷ ys) ≡ 0
    go true e f = let k : suc (length ys) ≤ 0 = rw e at h in absurd (omega arith)
    go false e f = let k : suc (length ys) ≤ 1 + place_in ys x = rw e at h in rw e (f (omega arith))

abbrev pub Once : List ℕ → Type 0
Once xs = (x : ℕ) → occurrences x xs ≤ 1

once_last : (xs : List ℕ) (x y : ℕ) → occurrences x xs ≡ 0 → occurrences y xs ≤ 1 → occurrences y (xs ++ (x ∷ [])) ≤ 1
once_last xs x y a h = go (eqb x y) refl
  where
    go : (b : Bool) → eqb x y ≡ b → occurrences y (xs ++ (x ∷ [])) ≤ 1
    go true e =
        let none : occurrences y xs ≡ 0 = subst (λ (k : ℕ). occurrences k xs ≡ 0) (eqb-true x y e) a in
        omega (arith, occurs_append y xs (x ∷ []), occurs_more y x [], ap one_if e)
    go false e = omega (arith, occurs_append y xs (x ∷ []), occurs_more y x [], ap one_if e)

once_from : (xs ms : List ℕ) → Once xs → Once (list_from xs ms)
once_from xs [] h = h
once_from xs (m ∷ ms) h =
    once_from (admit xs m) ms (λ y. by_admitted (λ l. occurrences y l ≤ 1) xs m (λ k. h y) (λ k. once_last xs m y (absent xs m k) (h y)))

-- each material stands in the list once
pub listed_once : (ms : List ℕ) → Once (list_of ms)
listed_once ms = once_from [] ms (λ x. omega arith)

-- ---- how many

pub from_among : (vs xs ms : List ℕ) → Every (λ x. Among x vs) xs → Every (λ x. Among x vs) ms → Every (λ x. Among x vs) (list_from xs ms)
from_among vs xs [] v w = v
from_among vs xs (m ∷ ms) v w =
    from_among vs (admit xs m) ms
    (by_admitted (λ l. Every (λ x. Among x vs) l) xs m (λ k. v) (λ k. every_append (λ x. Among x vs) xs (m ∷ []) v (w.0, tt))) w.1

-- as often in what a test leaves as in the list, or less
occurs_sift : (test : ℕ → Bool) (x : ℕ) (xs : List ℕ) → occurrences x (sift test xs) ≤ occurrences x xs
occurs_sift test x [] = omega arith
occurs_sift test x (y ∷ ys) = go (test y) (occurs_sift test x ys)
  where
    go : (b : Bool) → occurrences x (sift test ys) ≤ occurrences x ys
        → occurrences x (cond b (y ∷ sift test ys) (sift test ys)) ≤ occurrences x (y ∷ ys)
    go true h = omega (arith, occurs_more x y (sift test ys), occurs_more x y ys)
    go false h = omega (arith, occurs_more x y ys)

-- those that are not v are among the others
others : (v : ℕ) (vs xs : List ℕ) → Every (λ x. Among x (v ∷ vs)) xs → Every (λ x. Among x vs) (sift (λ x. not (eqb x v)) xs)
others v vs [] w = tt
others v vs (x ∷ xs) w = go (eqb x v) refl (others v vs xs w.1)
  where
    go : (b : Bool) → eqb x v ≡ b → Every (λ y. Among y vs) (sift (λ y. not (eqb y v)) xs)
        → Every (λ y. Among y vs) (cond (not b) (x ∷ sift (λ y. not (eqb y v)) xs) (sift (λ y. not (eqb y v)) xs))
    go true e i = i
    go false e i =
        let ne : x ≡ v → ⊥ = eqb-false x v e in
        (⊎_elim (λ q. absurd (ne (sym q))) (λ m. m) (among_cases x v vs w.0), i)

-- a list in which none stands twice is no longer than one that has them all
pub once_fits : (vs xs : List ℕ) → Once xs → Every (λ x. Among x vs) xs → length xs ≤ length vs
once_fits [] [] o w = omega arith
once_fits [] (x ∷ xs) o w = absurd (omega (arith, w.0))
once_fits (v ∷ vs) xs o w =
    let test : ℕ → Bool = λ x. eqb x v in
    let rest = sift (λ x. not (eqb x v)) xs in
    let less : length rest ≤ length vs = once_fits vs rest (λ x. omega (arith, occurs_sift (λ y. not (eqb y v)) x xs, o x)) (others v vs xs w) in
    omega (arith, length_both (λ x. eqb x v) xs, o v)

values_among : (value : ℕ → ℕ) (at n b : ℕ) → at ≤ b → b < at + n → Among (value b) (map value (up_from at n))
values_among value at zero b h k = absurd (omega arith)
values_among value at (suc n) b h k = go (eqb at b) refl (values_among value (at + 1) n b)
  where
    go : (t : Bool) → eqb at b ≡ t → (at + 1 ≤ b → b < at + 1 + n → Among (value b) (map value (up_from (at + 1) n)))
        → Among (value b) (value at ∷ map value (up_from (at + 1) n))
    go true e f = rw (ap value (eqb-true at b e)) (among_head (value b) (map value (up_from (at + 1) n)))
    go false e f =
        let ne : at ≡ b → ⊥ = eqb-false at b e in
        among_tail (value b) (value at) (map value (up_from (at + 1) n)) (f (omega arith) (omega arith))

all_among : (value : ℕ → ℕ) (bs : List ℕ) → Below 256 bs → Every (λ x. Among x (map value (up_from 0 256))) (map value bs)
all_among value [] w = tt
all_among value (b ∷ bs) w = (values_among value 0 256 b (omega arith) (omega (arith, w.0)), all_among value bs w.1)

-- Refusal 8 never comes: bytes stand for at most 256 materials.
pub few_materials : (value : ℕ → ℕ) (bs : List ℕ) → Below 256 bs → length (list_of (map value bs)) ≤ 256
few_materials value bs w =
    let vs = map value (up_from 0 256) in
    let ms = map value bs in
    let h : length (list_of ms) ≤ length vs = once_fits vs (list_of ms) (listed_once ms) (from_among vs [] ms tt (all_among value bs w)) in
    omega (arith, h, length-map (up_from 0 256) value, length_up 0 256)
