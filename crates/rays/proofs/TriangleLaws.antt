-- The triangles of the first p polygons stand in the rows; one polygon more.
use Prim.Native.Nat.{ℕ, zero, suc, ◌+◌, ◌*◌, ◌≤◌, ◌<◌}
use native.Mathlib.Omega.{arith}
use native.Mathlib.Numerals.{add-one}
use mathlib.Core.Path.{◌≡◌, refl, sym, ap, subst, ◌∙◌}
use mathlib.Core.Bool.{Bool, true, false, not, cond}
use mathlib.Core.List.{List, [], ◌∷◌, ◌++◌, append-nil}
use lib.ListN.{length, get_or, set, length-set, length-append, get_or-append}
use lib.Seq.{get_or-set_same, get_or-set_other}
use borrow.Author.Count.{below_more}
use borrow.Author.Tests.{eq-eqb, ne_eqb}
use Rattle.base.specs.Lists.{one_if, sift}
use Rattle.corners.specs.Corners.{none, there}
use Rattle.sides.proofs.UpFromLaws.{counting_more}
use Rattle.rays.specs.Checks.{triangles_of}
use Rattle.rays.specs.Steps.Rows.{put_triangle}

one_length : (b : Bool) (p : ℕ) → length (cond b (p ∷ []) []) ≡ one_if b
one_length true p = refl
one_length false p = refl

module _ (cs : List ℕ) (p : ℕ) where
  one_more : triangles_of cs (p + 1) ≡ triangles_of cs p ++ cond (there cs (3 * p)) (p ∷ []) []
  one_more =
      let z : 0 + p ≡ p = omega arith in
      ap (triangles_of cs) (add-one p)
      ∙ counting_more (λ q. there cs (3 * q)) 0 p
      ∙ ap (λ (k : ℕ). triangles_of cs p ++ sift (λ q. there cs (3 * q)) (k ∷ [])) z

  pub count_more_lem : length (triangles_of cs (p + 1)) ≡ length (triangles_of cs p) + one_if (there cs (3 * p))
  count_more_lem =
      ap length one_more
      ∙ length-append (triangles_of cs p) (cond (there cs (3 * p)) (p ∷ []) [])
      ∙ ap (λ (k : ℕ). length (triangles_of cs p) + k) (one_length (there cs (3 * p)) p)

  pub no_triangle : get_or cs (3 * p) 0 ≡ none → triangles_of cs (p + 1) ≡ triangles_of cs p
  no_triangle e =
      one_more
      ∙ ap (λ (b : Bool). triangles_of cs p ++ cond (not b) (p ∷ []) []) (eq-eqb (get_or cs (3 * p) 0) none e)
      ∙ append-nil (triangles_of cs p)

  pub a_triangle : (get_or cs (3 * p) 0 ≡ none → ⊥) → triangles_of cs (p + 1) ≡ triangles_of cs p ++ (p ∷ [])
  a_triangle e = one_more ∙ ap (λ (b : Bool). triangles_of cs p ++ cond (not b) (p ∷ []) []) (ne_eqb (get_or cs (3 * p) 0) none e)

-- of more polygons there are not fewer triangles
pub count_grows : (cs : List ℕ) (p d : ℕ) → length (triangles_of cs p) ≤ length (triangles_of cs (p + d))
count_grows cs p zero =
    let e : p + 0 ≡ p = omega arith in
    let same : length (triangles_of cs (p + 0)) ≡ length (triangles_of cs p) = ap (λ (k : ℕ). length (triangles_of cs k)) e in
    omega arith
count_grows cs p (suc d) =
    let e : p + suc d ≡ p + d + 1 = omega arith in
    let same : length (triangles_of cs (p + suc d)) ≡ length (triangles_of cs (p + d)) + one_if (there cs (3 * (p + d))) =
    ap (λ (k : ℕ). length (triangles_of cs k)) e ∙ count_more_lem cs (p + d) in
    omega (arith, count_grows cs p d)

-- Of the triangles ts the first k stand in the rows.
pub record Standing (cs ts tri : List ℕ) (t k : ℕ) : Type 0 where
  pub first : (j : ℕ) → j < k → get_or tri j 0 ≡ get_or cs (3 * get_or ts j 0) 0
  pub second : (j : ℕ) → j < k → get_or tri (t + j) 0 ≡ get_or cs (3 * get_or ts j 0 + 1) 0
  pub third : (j : ℕ) → j < k → get_or tri (2 * t + j) 0 ≡ get_or cs (3 * get_or ts j 0 + 2) 0

module _ (cs ts tri : List ℕ) (t k p : ℕ) (room : 3 * t ≤ length tri) (in_row : k < t) (count : k ≡ length ts) where
  a : List ℕ
  a = set tri k (get_or cs (3 * p) 0)

  b : List ℕ
  unfolding a
  b = set a (t + k) (get_or cs (3 * p + 1) 0)

  elsewhere : (m : ℕ) → (m ≡ k → ⊥) → (m ≡ t + k → ⊥) → (m ≡ 2 * t + k → ⊥) → get_or (put_triangle tri t k cs p) m 0 ≡ get_or tri m 0
  unfolding b
  elsewhere m x y z =
      get_or-set_other b (2 * t + k) m (get_or cs (3 * p + 2) 0) 0 z
      ∙ get_or-set_other a (t + k) m (get_or cs (3 * p + 1) 0) 0 y
      ∙ get_or-set_other tri k m (get_or cs (3 * p) 0) 0 x

  earlier : (j : ℕ) → j < k → get_or ts j 0 ≡ get_or (ts ++ (p ∷ [])) j 0
  earlier j h = sym (get_or-append ts (p ∷ []) 0 j (omega (arith, count)))

  last : get_or (ts ++ (p ∷ [])) k 0 ≡ p
  last = subst (λ (n : ℕ). get_or (ts ++ (p ∷ [])) n 0 ≡ p) (sym count) (at_end ts)
    where
      at_end : (xs : List ℕ) → get_or (xs ++ (p ∷ [])) (length xs) 0 ≡ p
      at_end [] = refl
      at_end (x ∷ xs) = at_end xs

  pub stands_more : Standing cs ts tri t k → Standing cs (ts ++ (p ∷ [])) (put_triangle tri t k cs p) t (k + 1)
  unfolding b
  stands_more g =
      let la : length a ≡ length tri = length-set tri k (get_or cs (3 * p) 0) in
      let lb : length b ≡ length tri = length-set a (t + k) (get_or cs (3 * p + 1) 0) ∙ la in
      let of : ℕ → ℕ → ℕ = λ q i. get_or cs (3 * q + i) 0 in
      record {
        first =
            below_more (λ (j : ℕ). get_or (put_triangle tri t k cs p) j 0 ≡ get_or cs (3 * get_or (ts ++ (p ∷ [])) j 0) 0) k
            (λ j h. elsewhere j (λ e. omega arith) (λ e. omega arith) (λ e. omega arith) ∙ g.first j h ∙ ap (λ (q : ℕ). get_or cs (3 * q) 0) (earlier j h))
            (get_or-set_other b (2 * t + k) k (get_or cs (3 * p + 2) 0) 0 (λ e. omega arith)
            ∙ get_or-set_other a (t + k) k (get_or cs (3 * p + 1) 0) 0 (λ e. omega arith)
            ∙ get_or-set_same tri k (get_or cs (3 * p) 0) 0 (omega arith)
            ∙ ap (λ (q : ℕ). get_or cs (3 * q) 0) (sym last));
        second =
            below_more (λ (j : ℕ). get_or (put_triangle tri t k cs p) (t + j) 0 ≡ of (get_or (ts ++ (p ∷ [])) j 0) 1) k
            (λ j h. elsewhere (t + j) (λ e. omega arith) (λ e. omega arith) (λ e. omega arith) ∙ g.second j h ∙ ap (λ (q : ℕ). of q 1) (earlier j h))
            (get_or-set_other b (2 * t + k) (t + k) (get_or cs (3 * p + 2) 0) 0 (λ e. omega arith)
            ∙ get_or-set_same a (t + k) (get_or cs (3 * p + 1) 0) 0 (omega arith)
            ∙ ap (λ (q : ℕ). of q 1) (sym last));
        third =
            below_more (λ (j : ℕ). get_or (put_triangle tri t k cs p) (2 * t + j) 0 ≡ of (get_or (ts ++ (p ∷ [])) j 0) 2) k
            (λ j h. elsewhere (2 * t + j) (λ e. omega arith) (λ e. omega arith) (λ e. omega arith) ∙ g.third j h ∙ ap (λ (q : ℕ). of q 2) (earlier j h))
            (get_or-set_same b (2 * t + k) (get_or cs (3 * p + 2) 0) 0 (omega arith) ∙ ap (λ (q : ℕ). of q 2) (sym last));
      }

pub length_triangle : (cs tri : List ℕ) (t k p : ℕ) → length (put_triangle tri t k cs p) ≡ length tri
length_triangle cs tri t k p = simp length-set

-- what the loop keeps: the triangles before p stand in the rows
pub record Laying (cs : List ℕ) (n : ℕ) (before tri : List ℕ) (t k p : ℕ) : Type 0 where
  pub same_length : length tri ≡ length before
  pub count : k ≡ length (triangles_of cs p)
  pub stand : Standing cs (triangles_of cs p) tri t k
