-- What `judge` and `ordinary` answer at each place where they return.
use Rattle.std.specs.Prelude.{◌≡◌, ℕ, ◌*◌, ◌<◌, ◌≤◌, List}
use mathlib.Core.Path.{sym, ap, ◌∙◌}
use borrow.Author.Tests.{lt-ltb, le-ltb}
use Rattle.base.proofs.Truth.{when, unless}
use Rattle.bvh.specs.Entry.{entries_in}
use Rattle.bvh.specs.Items.{marked}
use Rattle.entries.specs.Boxes.{box_at}
use Rattle.entries.specs.Folding.{fold_box}
use Rattle.entries.specs.declared.boxes.BoxWords.{BoxWords}
use Rattle.tree.specs.declared.premises.ordinary.Premises.{Premises}
use Rattle.tree.specs.premises.Faults.{extent_fault}
use Rattle.tree.specs.premises.Judgement.{faulty, refused_by, first_fault, judgement_of, premises_of, Judged}
use Rattle.tree.proofs.premises.PremisesLaws.{judged}

module _ (ws : List ℕ) (n : ℕ) where
  -- the first entry that breaks the premises; and the box of all
  pub found_first : (f : Premises) → f ≡ first_fault (box_at ws) (marked 0 n ws) → (f.fault ≡ 0 → ⊥) → f ≡ judgement_of (entries_in n ws)
  unfolding judgement_of entries_in
  found_first f i z =
      let first = first_fault (box_at ws) (marked 0 n ws) in
      i ∙ sym (unless first.fault _ first (λ e. z (ap (λ (r : Premises). r.fault) i ∙ e)))

  pub found_last : (f : Premises) (b : BoxWords) (x : ℕ) → f ≡ first_fault (box_at ws) (marked 0 n ws) → f.fault ≡ 0
      → b ≡ fold_box (box_at ws) (marked 0 n ws) → x ≡ extent_fault b → faulty x 0 ≡ judgement_of (entries_in n ws)
  unfolding judgement_of entries_in
  found_last f b x i z ib ix =
      let first = first_fault (box_at ws) (marked 0 n ws) in
      ap (λ (k : ℕ). faulty k 0) (ix ∙ ap extent_fault ib) ∙ sym (when first.fault _ first (sym (ap (λ (r : Premises). r.fault) i) ∙ z))

  pub too_many : (room : ℕ) → 32767 < n → Judged (entries_in n ws) room (refused_by 1)
  too_many room h = judged (entries_in n ws) room (refused_by 1) (unfold premises_of entries_in in rw (lt-ltb 32767 n h))

  pub too_short : (room : ℕ) → n ≤ 32767 → room < 7 * n → Judged (entries_in n ws) room (refused_by 2)
  too_short room h k =
      judged (entries_in n ws) room (refused_by 2) (unfold premises_of entries_in in rw (le-ltb 32767 n h, lt-ltb room (7 * n) k))

  pub read : (room : ℕ) (r : Premises) → n ≤ 32767 → 7 * n ≤ room → r ≡ judgement_of (entries_in n ws) → Judged (entries_in n ws) room r
  read room r h k i =
      judged (entries_in n ws) room r (i ∙ whole)
    where
      whole : judgement_of (entries_in n ws) ≡ premises_of (entries_in n ws) room
      whole = unfold premises_of entries_in in rw (le-ltb 32767 n h, le-ltb room (7 * n) k)
