-- The three ways through `enter`: the table has the number's place; or the material is in the list; or it goes behind the others.
use Prim.Native.Nat.{ℕ, suc, ◌+◌, ◌≤◌, ◌<◌}
use native.Mathlib.Omega.{arith}
use native.Mathlib.Numerals.{add-one}
use mathlib.Core.Path.{◌≡◌, refl, sym, ap, ◌∙◌}
use mathlib.Core.Bool.{Bool, true, false, cond}
use mathlib.Core.List.{List, [], ◌∷◌, ◌++◌}
use lib.Dec.{eqb}
use borrow.Author.Tests.{eqb-true, eqb-false}
use native.Mathlib.Decide.{dec_lt}
use lib.ListN.{length, get_or, set, take, length-append, length-set}
use lib.Seq.{length-take-le, take-suc-set, get_or-set_same, get_or-set_other}
use Rattle.materials.specs.Materials.{place_in, admit}
use Rattle.materials.specs.Steps.Listing.{Placed, Fits, bucket_of, Marked, Entered}
use Rattle.materials.proofs.ListLaws.{place_most, admit_there, admit_new}

-- another material of the list with one more is one of the list
behind_else : (xs : List ℕ) (x y : ℕ) → (y ≡ x → ⊥) → place_in (xs ++ (x ∷ [])) y < length (xs ++ (x ∷ [])) → place_in xs y < length xs
behind_else [] x y ne h = absurd (go (eqb x y) refl h)
  where
    go : (b : Bool) → eqb x y ≡ b → cond b 0 (1 + 0) < 1 → ⊥
    go true e k = ne (sym (eqb-true x y e))
    go false e k = omega (arith, k)
behind_else (z ∷ zs) x y ne h = go (eqb z y) (λ k. behind_else zs x y ne k) h
  where
    go : (b : Bool) → (place_in (zs ++ (x ∷ [])) y < length (zs ++ (x ∷ [])) → place_in zs y < length zs)
        → cond b 0 (1 + place_in (zs ++ (x ∷ [])) y) < suc (length (zs ++ (x ∷ []))) → cond b 0 (1 + place_in zs y) < suc (length zs)
    go true f k = omega arith
    go false f k = omega (arith, f (omega (arith, k)))

-- where no mark stands, the material is not in the list
pub unmarked : (table xs : List ℕ) (x : ℕ) → Marked table xs → get_or table (256 + bucket_of x) 0 ≡ 0 → length xs ≡ place_in xs x
unmarked table xs x m z = go (dec_lt (place_in xs x) (length xs))
  where
    go : Dec (place_in xs x < length xs) → length xs ≡ place_in xs x
    go (yes k) = absurd (m.marks x k z)
    go (no k) = omega (arith, place_most xs x)

module _ (b x : ℕ) (table list : List ℕ) (count : ℕ) (f : Fits x list count) where
  abbrev xs : List ℕ
  xs = take count list

  long : length xs ≡ count
  long = length-take-le count list f.inside

  pub already : Placed x xs (get_or table b 0) → (get_or table b 0 ≡ 0 → ⊥) → Marked table xs → Entered b x table table xs list count
  already p ne m =
      let same : admit xs x ≡ xs = admit_there xs x (p.there ne) in
      record { counted = sym (ap length same ∙ long); listed = sym same; own = p.place ne; others = λ c k n. refl; marked = rw same m }

  module _ (h : b < 256) (w : length table ≡ 1280) (m : Marked table xs) (at : ℕ) (e : at ≡ place_in xs x) where
    abbrev table₁ : List ℕ
    table₁ = set table b (at + 1)

    own : get_or table₁ b 0 ≡ 1 + place_in xs x
    own = omega (arith, get_or-set_same table b (at + 1) 0 (omega (arith, h, w)), e)

    others : (c : ℕ) → c < 256 → (c ≡ b → ⊥) → get_or table₁ c 0 ≡ get_or table c 0
    others c k n = get_or-set_other table b c (at + 1) 0 n

    marks : (y : ℕ) → place_in xs y < length xs → get_or table₁ (256 + bucket_of y) 0 ≡ 0 → ⊥
    marks y k z = m.marks y k (sym (get_or-set_other table b (256 + bucket_of y) (at + 1) 0 (λ q. omega (arith, q, h))) ∙ z)

    pub found : at < count → Entered b x table table₁ xs list count
    found k =
        let same : admit xs x ≡ xs = admit_there xs x (omega (arith, e, long)) in
        record { counted = sym (ap length same ∙ long); listed = sym same; own = own; others = others; marked = rw same (record { marks = marks }) }

    module _ (u : ℕ) (v : u ≡ bucket_of x) where
      abbrev table₂ : List ℕ
      table₂ = set table₁ (256 + u) 1

      marks_more : (y : ℕ) → place_in (xs ++ (x ∷ [])) y < length (xs ++ (x ∷ [])) → get_or table₂ (256 + bucket_of y) 0 ≡ 0 → ⊥
      marks_more y k z = go (eqb (bucket_of y) u) refl (eqb y x) refl
        where
          go : (p : Bool) → eqb (bucket_of y) u ≡ p → (q : Bool) → eqb y x ≡ q → ⊥
          go true p q r =
              let s : 256 + bucket_of y ≡ 256 + u = ap (λ (n : ℕ). 256 + n) (eqb-true (bucket_of y) u p) in
              omega (
                arith,
                get_or-set_same table₁ (256 + u) 1 0 (omega (arith, w, v, length-set table b (at + 1))),
                sym (ap (λ (n : ℕ). get_or table₂ n 0) s) ∙ z,
              )
          go false p true r = eqb-false (bucket_of y) u p (ap bucket_of (eqb-true y x r) ∙ sym v)
          go false p false r =
              let ne : bucket_of y ≡ u → ⊥ = eqb-false (bucket_of y) u p in
              marks y (behind_else xs x y (eqb-false y x r) k)
              (sym (get_or-set_other table₁ (256 + u) (256 + bucket_of y) 1 0 (λ q. ne (omega (arith, q)))) ∙ z)

      pub new : count ≤ at → Entered b x table table₂ xs (set list at x) (count + 1)
      new k =
          let last : at ≡ count = omega (arith, e, long, place_most xs x) in
          let more : admit xs x ≡ xs ++ (x ∷ []) = admit_new xs x (omega (arith, e, long)) in
          let room : count < length list = omega (arith, f.room, e, last) in
          record {
            counted = omega (arith, ap length more, length-append xs (x ∷ []), long);
            listed = ap (λ (n : ℕ). take n (set list at x)) (add-one count) ∙ ap (λ (n : ℕ). take (suc count) (set list n x)) last
                ∙ take-suc-set list count x room ∙ sym more;
            own = get_or-set_other table₁ (256 + u) b 1 0 (λ q. omega (arith, q, h)) ∙ own;
            others = λ c l n. get_or-set_other table₁ (256 + u) c 1 0 (λ q. omega (arith, q, l)) ∙ others c l n;
            marked = rw more (record { marks = marks_more });
          }
