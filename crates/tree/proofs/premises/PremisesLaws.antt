-- No fault is found exactly where the premises hold: of a box by its tests, of the entries by induction on their places.
use Rattle.std.specs.Prelude.{◌≡◌, ℕ, ◌+◌, ◌*◌, ◌<◌, Bool, true, false, cond, ◌||◌, T, eqb, ltb, ◌⊎◌, List, [], ◌∷◌, ◌++◌, length, take}
use native.Mathlib.Omega.{arith}
use mathlib.Core.Path.{refl, sym, ap, ◌∙◌, subst}
use mathlib.Core.Logic.{inl, inr}
use lib.Dec.{eqb→eq}
use lib.Ieee.{Float, nan, inf, fin, le, eq}
use lib.Ieee.Fits.{eq→eqb}
use lib.Ieee.Scale.{finite}
use mir.Facts.{or_yes}
use Rattle.base.specs.Lists.{Among}
use Rattle.base.proofs.ListLaws.{among_head, among_tail, among_cases}
use Rattle.base.proofs.Truth.{when}
use Rattle.float32.specs.Signs.{abs_of}
use Rattle.math.specs.declared.axis.Axis.{Axis}
use Rattle.math.specs.declared.axis.Axis.TheVariants.{X, Y, Z}
use Rattle.records.specs.Axis.{largest, smallest, nought}
use Rattle.entries.specs.Ends.{low, high, Proper, Bounded}
use Rattle.entries.specs.Folding.{fold_box}
use Rattle.entries.specs.declared.boxes.BoxWords.{BoxWords}
use Rattle.bvh.specs.declared.items.BvhItem.{BvhItem}
use Rattle.bvh.specs.Build.{Entries}
use Rattle.bvh.specs.Entry.{entries_in, entries_of}
use Rattle.bvh.specs.Items.{words_of}
use Rattle.bvh.proofs.EntryWords.{entries_in_lem}
use Rattle.tree.specs.Pair.{Ordinary, extent_on}
use Rattle.tree.specs.declared.premises.ordinary.Premises.{Premises}
use Rattle.tree.specs.premises.Faults.{sized, sound, failing, size_fault, order_fault, box_fault, extent_fault}
use Rattle.tree.specs.premises.Judgement.{faulty, refused_by, first_fault, judgement_of, premises_of, Judged}

-- ---- three tests

-- a test on each axis
abbrev OnEach : (Axis → Bool) → Type 0
OnEach ok = (a : Axis) → T (ok a)

failing_none : (n : ℕ) (ok : Axis → Bool) (rest : ℕ) → 0 < n → failing n (ok X) (ok Y) (ok Z) rest ≡ 0 → OnEach ok × (rest ≡ 0)
unfolding failing
failing_none n ok rest h e =
    let x = passed (ok X) _ n h e in
    let y = passed (ok Y) _ (n + 1) (omega arith) x.1 in
    let z = passed (ok Z) rest (n + 2) (omega arith) y.1 in
    ((λ a. elim a as (λ a. T (ok a)) [ X ↦ x.0 | Y ↦ y.0 | Z ↦ z.0 ]), z.1)
  where
    passed : (ok : Bool) (rest n : ℕ) → 0 < n → cond ok rest n ≡ 0 → T ok × (rest ≡ 0)
    passed true rest n h e = (tt, e)
    passed false rest n h e = absurd (omega arith)

none_failing : (n : ℕ) (ok : Axis → Bool) (rest : ℕ) → OnEach ok → rest ≡ 0 → failing n (ok X) (ok Y) (ok Z) rest ≡ 0
unfolding failing
none_failing n ok rest h e = pass (ok X) _ n (h X) (pass (ok Y) _ (n + 1) (h Y) (pass (ok Z) rest (n + 2) (h Z) e))
  where
    pass : (ok : Bool) (rest n : ℕ) → T ok → rest ≡ 0 → cond ok rest n ≡ 0
    pass true rest n h e = e
    pass false rest n h e = absurd h

-- ---- one box

sized_finite : (v : Float) → T (sized v) → T (finite v)
unfolding sized abs_of le
sized_finite nan h = absurd h
sized_finite (inf s) h = absurd h
sized_finite (fin s m e) h = tt

abbrev SizedLow : BoxWords → Axis → Bool
SizedLow b a = sized (low a b)

abbrev SizedHigh : BoxWords → Axis → Bool
SizedHigh b a = sized (high a b)

abbrev InOrder : BoxWords → Axis → Bool
InOrder b a = le (low a b) (high a b)

no_fault_box : (b : BoxWords) → box_fault b ≡ 0 → (a : Axis) → Proper a b × Bounded largest a b
unfolding box_fault size_fault order_fault
no_fault_box b e a =
    let l = failing_none 1 (SizedLow b) _ (omega arith) e in
    let h = failing_none 4 (SizedHigh b) _ (omega arith) l.1 in
    let o = failing_none 7 (InOrder b) 0 (omega arith) h.1 in (
      record {
        low_finite = sized_finite (low a b) (l.0 a);
        high_finite = sized_finite (high a b) (h.0 a);
        in_order = o.0 a;
      },
      record { low_size = unfold sized in l.0 a; high_size = unfold sized in h.0 a },
    )

box_no_fault : (b : BoxWords) → ((a : Axis) → Proper a b) → ((a : Axis) → Bounded largest a b) → box_fault b ≡ 0
unfolding box_fault size_fault order_fault sized
box_no_fault b p s =
    none_failing 1 (SizedLow b) _ (λ a. (s a).low_size)
    (none_failing 4 (SizedHigh b) _ (λ a. (s a).high_size) (none_failing 7 (InOrder b) 0 (λ a. (p a).in_order) refl))

-- ---- the box of all

abbrev Sound : Float → Type 0
Sound q = T (eq q nought) ⊎ T (le smallest q)

sound_said : (q : Float) → T (sound q) → Sound q
unfolding sound
sound_said q h = or_yes (eq q nought) (le smallest q) h

said_sound : (q : Float) → Sound q → T (sound q)
unfolding sound
said_sound q (inl h) = or_l (eq q nought) (le smallest q) h
  where
    or_l : (a b : Bool) → T a → T (a || b)
    or_l true b h = tt
    or_l false b h = absurd h
said_sound q (inr h) = or_r (eq q nought) (le smallest q) h
  where
    or_r : (a b : Bool) → T b → T (a || b)
    or_r true b h = tt
    or_r false b h = h

no_fault_extents : (b : BoxWords) → extent_fault b ≡ 0 → (a : Axis) → Sound (extent_on a b)
unfolding extent_fault
no_fault_extents b e a = sound_said (extent_on a b) ((failing_none 10 (λ a. sound (extent_on a b)) 0 (omega arith) e).0 a)

extents_no_fault : (b : BoxWords) → ((a : Axis) → Sound (extent_on a b)) → extent_fault b ≡ 0
unfolding extent_fault
extents_no_fault b h = none_failing 10 (λ a. sound (extent_on a b)) 0 (λ a. said_sound (extent_on a b) (h a)) refl

-- ---- the entries

-- of a fault and what is answered where there is none, neither is one
chosen : (f : ℕ) (a b : Premises) → b.fault ≡ f → (cond (eqb f 0) a b).fault ≡ 0 → (f ≡ 0) × (a.fault ≡ 0)
chosen f a b s e = go (eqb f 0) refl e
  where
    go : (t : Bool) → eqb f 0 ≡ t → (cond t a b).fault ≡ 0 → (f ≡ 0) × (a.fault ≡ 0)
    go true i h = (eqb→eq f 0 (subst T (sym i) tt), h)
    go false i h = absurd (subst T i (eq→eqb (sym s ∙ h)))

module _ (at : ℕ → BoxWords) where
  no_fault_each : (ps : List ℕ) → (first_fault at ps).fault ≡ 0 → (p : ℕ) → Among p ps → box_fault (at p) ≡ 0
  no_fault_each [] e p m = absurd (omega arith)
  no_fault_each (q ∷ ps) e p m =
      let here = chosen (box_fault (at q)) (first_fault at ps) (faulty (box_fault (at q)) q) refl e in
      elim (among_cases p q ps m) [
        | inl s ↦ subst (λ (r : ℕ). box_fault (at r) ≡ 0) s here.0
        | inr l ↦ no_fault_each ps here.1 p l
      ]

  each_no_fault : (ps : List ℕ) → ((p : ℕ) → Among p ps → box_fault (at p) ≡ 0) → (first_fault at ps).fault ≡ 0
  each_no_fault [] k = refl
  each_no_fault (q ∷ ps) k =
      ap (λ (r : Premises). r.fault) (when (box_fault (at q)) (first_fault at ps) (faulty (box_fault (at q)) q) (k q (among_head q ps)))
      ∙ each_no_fault ps (λ p m. k p (among_tail p q ps m))

-- No fault exactly where the premises hold.
pub no_fault_ordinary : (e : Entries) → (judgement_of e).fault ≡ 0 → Ordinary e
unfolding judgement_of
no_fault_ordinary e h =
    let first = first_fault e.at e.places in
    let both = chosen first.fault (faulty (extent_fault (fold_box e.at e.places)) 0) first refl h in
    let boxes = no_fault_each e.at e.places both.0 in
    record {
      proper = λ a p m. (no_fault_box (e.at p) (boxes p m) a).0;
      bounded = λ a p m. (no_fault_box (e.at p) (boxes p m) a).1;
      extents = no_fault_extents (fold_box e.at e.places) both.1;
    }

pub ordinary_no_fault : (e : Entries) → Ordinary e → (judgement_of e).fault ≡ 0
unfolding judgement_of
ordinary_no_fault e o =
    let first = first_fault e.at e.places in
    let none : first.fault ≡ 0 =
    each_no_fault e.at e.places (λ p m. box_no_fault (e.at p) (λ a. o.proper a p m) (λ a. o.bounded a p m)) in
    ap (λ (r : Premises). r.fault) (when first.fault (faulty (extent_fault (fold_box e.at e.places)) 0) first none)
    ∙ extents_no_fault (fold_box e.at e.places) o.extents

-- ---- the answer

-- an answer that is no refusal is the judgement
not_refused : (e : Entries) (room : ℕ) → (premises_of e room).refusal ≡ 0 → premises_of e room ≡ judgement_of e
unfolding premises_of
not_refused e room h = go (ltb 32767 e.number) (ltb room (7 * e.number)) (judgement_of e) h
  where
    go : (a b : Bool) (j : Premises) → (cond a (refused_by 1) (cond b (refused_by 2) j)).refusal ≡ 0 → cond a (refused_by 1) (cond b (refused_by 2) j) ≡ j
    go true b j h = absurd (omega arith)
    go false true j h = absurd (omega arith)
    go false false j h = refl

-- a refusal has no fault
refused_no_fault : (e : Entries) (room : ℕ) → (judgement_of e).fault ≡ 0 → (premises_of e room).fault ≡ 0
unfolding premises_of
refused_no_fault e room h = go (ltb 32767 e.number) (ltb room (7 * e.number)) (judgement_of e) h
  where
    go : (a b : Bool) (j : Premises) → j.fault ≡ 0 → (cond a (refused_by 1) (cond b (refused_by 2) j)).fault ≡ 0
    go true b j h = refl
    go false true j h = refl
    go false false j h = h

pub judged : (e : Entries) (room : ℕ) (r : Premises) → r ≡ premises_of e room → Judged e room r
judged e room r i =
    let read : r.refusal ≡ 0 → premises_of e room ≡ judgement_of e = λ h. not_refused e room (sym (ap (λ (a : Premises). a.refusal) i) ∙ h) in
    record {
      answer = i;
      no_fault_ordinary =
          λ h k. no_fault_ordinary e (sym (ap (λ (a : Premises). a.fault) (i ∙ read h)) ∙ k);
      ordinary_no_fault = λ o. ap (λ (a : Premises). a.fault) i ∙ refused_no_fault e room (ordinary_no_fault e o);
    }

-- Items are judged by their words: what a build of the items relies on is what `ordinary` says of the words that they are.
pub items_judged : (items : List BvhItem) (rest : List ℕ) (room : ℕ) (r : Premises)
    → Judged (entries_in (length items) (take (7 * length items) (words_of items ++ rest))) room r → Judged (entries_of items) room r
items_judged items rest room r = subst (λ (e : Entries). Judged e room r) (entries_in_lem items rest)
