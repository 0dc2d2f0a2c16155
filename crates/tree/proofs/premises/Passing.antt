-- The list by its words, an entry at a time: what the loops keep, and the answers of `ordinary`.
use Rattle.std.specs.Prelude.{◌≡◌, ℕ, ◌+◌, ◌-◌, ◌*◌, ◌<◌, ◌≤◌, Bool, true, false, cond, not, eqb, List, [], ◌∷◌, get_or}
use native.Mathlib.Omega.{arith}
use mathlib.Core.Path.{refl, sym, ap, ◌∙◌}
use borrow.Author.Tests.{eq-eqb, ne_eqb}
use Rattle.base.proofs.Truth.{when, unless}
use Rattle.bvh.specs.Items.{is_marked, marked}
use Rattle.bvh.proofs.MarkedLaws.{marked_next}
use Rattle.entries.specs.Boxes.{box_at}
use Rattle.entries.specs.Folding.{start_box, fold_step, fold_from}
use Rattle.entries.specs.declared.boxes.BoxWords.{BoxWords}
use Rattle.tree.specs.premises.Faults.{box_fault}
use Rattle.tree.specs.premises.Judgement.{faulty, first_fault}

-- ---- a mark

pub unmarked : {A : Type 0} (w : ℕ) (a b : A) → w ≡ 0 → b ≡ cond (is_marked w) a b
unmarked w a b e = sym (ap (λ (t : Bool). cond (not t) a b) (eq-eqb w 0 e))

pub is_marked_lem : {A : Type 0} (w : ℕ) (a b : A) → (w ≡ 0 → ⊥) → a ≡ cond (is_marked w) a b
is_marked_lem w a b e = sym (ap (λ (t : Bool). cond (not t) a b) (ne_eqb w 0 e))

-- ---- the loops

module _ (ws : List ℕ) where
  -- the places from p on
  abbrev pub rest : ℕ → ℕ → List ℕ
  rest n p = marked p (n - p) ws

  abbrev mark : ℕ → Bool
  mark p = is_marked (get_or ws (7 * p) 0)

  rest_end : (n : ℕ) → rest n n ≡ []
  rest_end n = let none : n - n ≡ 0 = omega arith in ap (λ (k : ℕ). marked n k ws) none

  -- The entries before p break nothing.
  pub record Clean (n p : ℕ) : Type 0 where
    pub most : p ≤ n
    pub same : first_fault (box_at ws) (rest n p) ≡ first_fault (box_at ws) (marked 0 n ws)

  pub clean_begin : (n : ℕ) → Clean n 0
  clean_begin n = let all : n - 0 ≡ n = omega arith in record { most = omega arith; same = ap (λ (k : ℕ). first_fault (box_at ws) (marked 0 k ws)) all }

  -- one entry's fault, and the rest
  abbrev fault : ℕ → ℕ
  fault p = cond (mark p) (box_fault (box_at ws p)) 0

  fault_next : (n p : ℕ) → p < n
      → first_fault (box_at ws) (rest n p) ≡ cond (eqb (fault p) 0) (first_fault (box_at ws) (rest n (p + 1))) (faulty (fault p) p)
  fault_next n p h = ap (first_fault (box_at ws)) (marked_next ws p n h) ∙ go (mark p)
    where
      go : (b : Bool) → first_fault (box_at ws) (cond b (p ∷ rest n (p + 1)) (rest n (p + 1)))
          ≡ cond (eqb (cond b (box_fault (box_at ws p)) 0) 0) (first_fault (box_at ws) (rest n (p + 1))) (faulty (cond b (box_fault (box_at ws p)) 0) p)
      go true = refl
      go false = refl

  pub clean_next : (n p f : ℕ) → Clean n p → p < n → f ≡ fault p → f ≡ 0 → Clean n (p + 1)
  clean_next n p f c h i z =
      record {
        most = omega arith;
        same = sym (when (fault p) _ _ (sym i ∙ z)) ∙ sym (fault_next n p h) ∙ c.same;
      }

  pub clean_found : (n p f : ℕ) → Clean n p → p < n → f ≡ fault p → (f ≡ 0 → ⊥) → faulty f p ≡ first_fault (box_at ws) (marked 0 n ws)
  clean_found n p f c h i z =
      ap (λ (k : ℕ). faulty k p) i ∙ sym (unless (fault p) _ _ (λ e. z (i ∙ e))) ∙ sym (fault_next n p h) ∙ c.same

  pub clean_end : (n p : ℕ) → Clean n p → n ≤ p → faulty 0 0 ≡ first_fault (box_at ws) (marked 0 n ws)
  clean_end n p c h =
      let last : p ≡ n = omega (arith, c.most) in
      sym (ap (first_fault (box_at ws)) (rest_end n)) ∙ sym (ap (λ (k : ℕ). first_fault (box_at ws) (rest n k)) last) ∙ c.same

  -- The box so far, and the rest folded onto it.
  pub record Folded (n p : ℕ) (acc : BoxWords) : Type 0 where
    pub most : p ≤ n
    pub whole : fold_from (box_at ws) acc (rest n p) ≡ fold_from (box_at ws) start_box (marked 0 n ws)

  pub folded_begin : (n : ℕ) (acc : BoxWords) → acc ≡ start_box → Folded n 0 acc
  folded_begin n acc e =
      let all : n - 0 ≡ n = omega arith in
      record {
        most = omega arith;
        whole =
            ap (λ (k : ℕ). fold_from (box_at ws) acc (marked 0 k ws)) all ∙ ap (λ (b : BoxWords). fold_from (box_at ws) b (marked 0 n ws)) e;
      }

  fold_next : (n p : ℕ) (acc : BoxWords) → p < n
      → fold_from (box_at ws) acc (rest n p) ≡ fold_from (box_at ws) (cond (mark p) (fold_step acc (box_at ws p)) acc) (rest n (p + 1))
  fold_next n p acc h = ap (fold_from (box_at ws) acc) (marked_next ws p n h) ∙ go (mark p)
    where
      go : (b : Bool) → fold_from (box_at ws) acc (cond b (p ∷ rest n (p + 1)) (rest n (p + 1)))
          ≡ fold_from (box_at ws) (cond b (fold_step acc (box_at ws p)) acc) (rest n (p + 1))
      go true = refl
      go false = refl

  pub folded_next : (n p : ℕ) (acc acc' : BoxWords) → Folded n p acc → p < n → acc' ≡ cond (mark p) (fold_step acc (box_at ws p)) acc
      → Folded n (p + 1) acc'
  folded_next n p acc acc' f h i =
      record {
        most = omega arith;
        whole = ap (λ (b : BoxWords). fold_from (box_at ws) b (rest n (p + 1))) i ∙ sym (fold_next n p acc h) ∙ f.whole;
      }

  pub folded_end : (n p : ℕ) (acc : BoxWords) → Folded n p acc → n ≤ p → acc ≡ fold_from (box_at ws) start_box (marked 0 n ws)
  folded_end n p acc f h =
      let last : p ≡ n = omega (arith, f.most) in
      sym (ap (fold_from (box_at ws) acc) (rest_end n)) ∙ sym (ap (λ (k : ℕ). fold_from (box_at ws) acc (rest n k)) last) ∙ f.whole
