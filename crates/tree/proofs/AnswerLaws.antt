-- What a build that answers Built was, by its definition: nothing refused it, and its values are the tree's. So it stands, as the walk over its records asks.
use Rattle.std.specs.Prelude.{◌≡◌, ℕ, zero, suc, ◌+◌, ◌*◌, ◌<◌, ◌≤◌, Bool, true, false, cond, ◌||◌, ltb, List, [], ◌∷◌, ◌++◌, length, get_or, Ok, Err}
use native.Mathlib.Omega.{arith}
use native.Mathlib.Nat.{zero-add}
use mathlib.Core.Path.{refl, ap, subst}
use borrow.Author.Tests.{ltb-false}
use Rattle.base.specs.Lists.{Below, Rising}
use Rattle.base.proofs.Truth.{neither}
use Rattle.bvh.specs.declared.slices.BuildRefusal.{BuildRefusal}
use Rattle.bvh.specs.declared.slices.BuildRefusal.TheVariants.{TooManyEntries, ThresholdOutside, BufferTooShort, TooManyNodes}
use Rattle.bvh.specs.declared.slices.BuiltTree.{BuiltTree}
use Rattle.bvh.specs.declared.slices.Lengths.{Lengths}
use Rattle.bvh.specs.Build.{Build, Entries, tree_of, built_of, refusal_number, number_of, short, answer_of, answer_by}
use Rattle.bvh.specs.declared.items.BvhItem.{BvhItem}
use Rattle.bvh.specs.Entry.{entries_in, entries_of}
use Rattle.bvh.specs.Items.{words_of, present, is_marked, marked}
use Rattle.rows.specs.Tree.{size}
use Rattle.bvh.proofs.MarkedLaws.{marked_present, marked_below, marked_rising}
use Rattle.tree.proofs.PairLaws.{Stands}

-- the values of an answer, or these where it is refused
abbrev values_or : BuiltTree → Build → BuiltTree
values_or d (Ok b) = b
values_or d (Err why) = d

pub refusal_numbered : (why : BuildRefusal) → 0 < refusal_number why
refusal_numbered TooManyEntries = omega arith
refusal_numbered ThresholdOutside = omega arith
refusal_numbered BufferTooShort = omega arith
refusal_numbered TooManyNodes = omega arith

-- a test that was passed: it does not hold, and the answer is that of the tests behind it
passed : (q : Bool) (why : BuildRefusal) (rest : Build) (b : BuiltTree) → Ok b ≡ cond q (Err why) rest → (q ≡ false) × (Ok b ≡ rest)
passed true why rest b e = absurd (let n : 0 ≡ refusal_number why = ap number_of e in omega (arith, refusal_numbered why))
passed false why rest b e = (refl, e)

pub record Passed (e : Entries) (th : ℕ) (b : BuiltTree) : Type 0 where
  pub few : e.number ≤ 32767
  pub threshold : 0 < th
  pub nodes_few : size (tree_of e th) ≤ 32767
  pub values : b ≡ built_of e th (tree_of e th)

pub built_passed : (e : Entries) (th : ℕ) (l : Lengths) (b : BuiltTree) → Ok b ≡ answer_of e th l → Passed e th b
unfolding answer_by
built_passed e th l b a =
    let t = tree_of e th in
    let c₁ = passed (ltb 32767 e.number) TooManyEntries _ b a in
    let c₂ = passed (ltb th 1 || ltb 32767 th) ThresholdOutside _ b c₁.1 in
    let c₃ = passed (short e.number l) BufferTooShort _ b c₂.1 in
    let c₄ = passed (ltb 32767 (size t)) TooManyNodes (Ok (built_of e th t)) b c₃.1 in
    record {
      few = ltb-false _ _ c₁.0;
      threshold = ltb-false th 1 (neither (ltb th 1) (ltb 32767 th) c₂.0).0;
      nodes_few = ltb-false _ _ c₄.0;
      values = ap (values_or b) c₄.1;
    }

-- ---- the places of the present entries

-- They rise, lie within the list, and are at most as many as it has entries.
pub record Listed (e : Entries) : Type 0 where
  pub rising : Rising 0 e.places
  pub below : Below e.number e.places
  pub present : length e.places ≤ e.number

marked_few : (at n : ℕ) (ws : List ℕ) → length (marked at n ws) ≤ n
marked_few at zero ws = omega arith
marked_few at (suc n) ws = by (is_marked (get_or ws (7 * at) 0)) (marked_few (at + 1) n ws)
  where
    by : (q : Bool) → length (marked (at + 1) n ws) ≤ n → length (cond q (at ∷ marked (at + 1) n ws) (marked (at + 1) n ws)) ≤ suc n
    by true h = omega arith
    by false h = omega arith

-- of entries in words
pub words_listed : (n : ℕ) (ws : List ℕ) → Listed (entries_in n ws)
unfolding entries_in
words_listed n ws =
    record { rising = marked_rising 0 n ws; below = subst (λ (k : ℕ). Below k (marked 0 n ws)) (zero-add n) (marked_below 0 n ws); present = marked_few 0 n ws }

-- of a list of items
pub items_listed : (items : List BvhItem) → Listed (entries_of items)
unfolding entries_of entries_in
items_listed items =
    let l = words_listed (length items) (words_of items ++ []) in
    let same : marked 0 (length items) (words_of items ++ []) ≡ present 0 items = marked_present items [] in
    record {
      rising = subst (Rising 0) same l.rising;
      below = subst (Below (length items)) same l.below;
      present = subst (λ (ps : List ℕ). length ps ≤ length items) same l.present;
    }

pub stands : (e : Entries) (th : ℕ) (b : BuiltTree) → Listed e → Passed e th b → Stands e th
stands e th b l p = record { few = p.few; threshold = p.threshold; nodes_few = p.nodes_few; rising = l.rising; below = l.below; present = l.present }
