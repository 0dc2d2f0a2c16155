-- Rule P4: whether a list of entries meets the premises of point 3, and what breaks them first where not. Definitions only.
use Rattle.std.specs.Prelude.{◌≡◌, ℕ, ◌*◌, cond, List, [], ◌∷◌, ◌==◌, nat_lt}
use Rattle.entries.specs.Folding.{fold_box}
use Rattle.entries.specs.declared.boxes.BoxWords.{BoxWords}
use Rattle.bvh.specs.Build.{Entries}
use Rattle.tree.specs.Pair.{Ordinary}
use Rattle.tree.specs.declared.premises.ordinary.Premises.{Premises}
use Rattle.tree.specs.premises.Faults.{box_fault, extent_fault}

-- a fault of the entry at a place; and a refusal
abbrev pub faulty : ℕ → ℕ → Premises
faulty n p = record { refusal = 0; fault = n; place = p }

abbrev pub refused_by : ℕ → Premises
refused_by n = record { refusal = n; fault = 0; place = 0 }

-- the first place whose box breaks the premises by itself
abbrev pub first_fault : (ℕ → BoxWords) → List ℕ → Premises
first_fault at [] = faulty 0 0
first_fault at (p ∷ ps) = cond (box_fault (at p) == 0) (first_fault at ps) (faulty (box_fault (at p)) p)

-- such a place, else what the box of all breaks
unfoldable pub judgement_of : Entries → Premises
judgement_of e =
    let first = first_fault e.at e.places in
    cond (first.fault == 0) (faulty (extent_fault (fold_box e.at e.places)) 0) first

-- Build's refusals 1 and 2, of which the second is of `room` words of entries; else the judgement
unfoldable pub premises_of : Entries → ℕ → Premises
premises_of e room = cond (nat_lt 32767 e.number) (refused_by 1) (cond (nat_lt room (7 * e.number)) (refused_by 2) (judgement_of e))

-- Rule P4: the answer; and that it has no fault exactly where the premises hold.
pub record Judged (e : Entries) (room : ℕ) (r : Premises) : Type 0 where
  pub answer : r ≡ premises_of e room
  pub no_fault_ordinary : r.refusal ≡ 0 → r.fault ≡ 0 → Ordinary e
  pub ordinary_no_fault : Ordinary e → r.fault ≡ 0
