-- The first side of each vertex, one side more.
use mathlib.Core.Bool.{Bool, true, false, cond, ◌&&◌}
use Prim.Native.Nat.{ℕ, ◌+◌, ◌≤◌, ◌<◌}
use native.Mathlib.Omega.{arith}
use mathlib.Core.Path.{◌≡◌, refl, sym, ap, ap₂, ◌∙◌}
use mathlib.Core.List.{List}
use lib.Dec.{eqb, ltb}
use lib.ListN.{length, get_or, set, length-set}
use lib.Seq.{get_or-set_same, get_or-set_other}
use borrow.Author.Tests.{eqb-true, eqb-false, lt-ltb}
use Rattle.rings.specs.Firsts.{no_side, first_side}
use Rattle.rings.specs.Steps.Stored.{or_side, noted, Firsts}
use Rattle.rings.proofs.SideLaws.{first_more}

kept : (x s : ℕ) → x ≡ or_side x false s
kept x s = go (eqb x no_side) refl
  where
    go : (b : Bool) → eqb x no_side ≡ b → x ≡ cond b no_side x
    go true e = eqb-true x no_side e
    go false e = refl

module _ (firsts : List ℕ) (v i s : ℕ) where
  pub length_noted : length (noted firsts v i s) ≡ length firsts
  unfolding noted
  length_noted = go (ltb i v && eqb (get_or firsts i 0) no_side)
    where
      go : (b : Bool) → length (cond b (set firsts i s) firsts) ≡ length firsts
      go true = length-set firsts i s
      go false = refl

  other : (k : ℕ) → (k ≡ i → ⊥) → get_or (noted firsts v i s) k 0 ≡ get_or firsts k 0
  unfolding noted
  other k d = go (ltb i v && eqb (get_or firsts i 0) no_side)
    where
      go : (b : Bool) → get_or (cond b (set firsts i s) firsts) k 0 ≡ get_or firsts k 0
      go true = get_or-set_other firsts i k s 0 d
      go false = refl

  same : i < v → v ≤ length firsts → get_or (noted firsts v i s) i 0 ≡ or_side (get_or firsts i 0) true s
  unfolding noted
  same h room =
      ap (λ (b : Bool). get_or (cond (b && eqb (get_or firsts i 0) no_side) (set firsts i s) firsts) i 0) (lt-ltb i v h) ∙ go (eqb (get_or firsts i 0) no_side)
    where
      go : (b : Bool) → get_or (cond b (set firsts i s) firsts) i 0 ≡ cond b s (get_or firsts i 0)
      go true = get_or-set_same firsts i s 0 (omega arith)
      go false = refl

pub one_side : (corners : List ℕ) (s v : ℕ) (firsts : List ℕ) → s < no_side → v ≤ length firsts → Firsts corners s v firsts
    → Firsts corners (s + 1) v (noted firsts v (get_or corners s 0) s)
one_side corners s v firsts few room g = record { sides = λ k h. go k h (eqb (get_or corners s 0) k) refl ∙ sym (first_more corners k s few) }
  where
    go : (k : ℕ) → k < v → (b : Bool) → eqb (get_or corners s 0) k ≡ b → get_or (noted firsts v (get_or corners s 0) s) k 0
        ≡ or_side (first_side corners k s) (eqb (get_or corners s 0) k) s
    go k h true e =
        let at : get_or corners s 0 ≡ k = eqb-true (get_or corners s 0) k e in
        ap (λ (i : ℕ). get_or (noted firsts v i s) k 0) at
        ∙ same firsts v k s h room
        ∙ ap₂ (λ (x : ℕ) (b : Bool). or_side x b s) (g.sides k h) (sym e)
    go k h false e =
        other firsts v (get_or corners s 0) s k (λ d. eqb-false (get_or corners s 0) k e (sym d))
        ∙ g.sides k h
        ∙ kept (first_side corners k s) s
        ∙ ap (λ (b : Bool). or_side (first_side corners k s) b s) (sym e)
