-- What holds of every walk's outcome, whatever the bytes: its reads are within what the trees allow, its count is that of its positions,
-- there are no more of them than items, each is below the item count, and a walk that was not refused has read everything that it had to.
use Rattle.std.specs.Prelude.{◌≡◌, ℕ, zero, suc, ◌+◌, ◌-◌, ◌<◌, ◌≤◌, max, Bool, true, false, cond, ◌||◌, eqb, ltb, List, length, pos, Result, Ok, Err}
use mathlib.Core.Path.{refl}
use native.Mathlib.Omega.{arith}
use lib.Signed.{lt_z}
use borrow.Author.Tests.{ltb-false, ne_eqb}
use Rattle.base.proofs.EveryLaws.{every_append}
use Rattle.base.proofs.NumberLaws.{up_below}
use Rattle.base.proofs.Truth.{neither}
use Rattle.base.specs.Lists.{Below, up_from}
use Rattle.math.specs.declared.aabb.Aabb.{Aabb}
use Rattle.math.specs.declared.vec3.Vec3.{Vec3}
use Rattle.records.specs.declared.BvhNode.{BvhNode}
use Rattle.walk_steps.specs.Boxes.{query_of}
use Rattle.walk_steps.specs.Refusals.{whole, bad_node}
use Rattle.walk_steps.specs.Step.{Lent, lent_of, Turn, started, more, handed_of, handing, step_of}
use Rattle.walk.specs.Walks.{allowance, walk_from, unread, ended, too_many, too_short, walk_of, Outcome, refusal_number, status_number}
use Rattle.walk_steps.specs.declared.refusals.WalkRefusal.{WalkRefusal}
use Rattle.walk_steps.specs.declared.refusals.WalkRefusal.TheVariants.{TooMany, BufferTooShort, TreeRange, NodeRecord, TooManyHandedOut}
use Rattle.walk_steps.specs.declared.state.Sizes.{Sizes}
use Rattle.walk_steps.specs.declared.state.WalkState.{WalkState}
use Rattle.walk.proofs.WalkLaws.{node_of, Reading, refused_tree, entered_tree, passed_tree, refused_node, met_node, missed_node, reading}
use Rattle.walk.proofs.WalkLaws.{walk_reads, walk_handed, walk_within, walk_ends, walk_ind}

-- ---- the positions that a walk hands out

-- of a leaf that refusal 10 let pass, as many of its positions as are handed out lie within the items
leaf_below : (at last items m : ℕ) (n : BvhNode) → bad_node at last items n ≡ false → m ≤ whole n.item_count
    → Below items (up_from (whole n.item_id) m)
unfolding bad_node
leaf_below at last items zero n e h = tt
leaf_below at last items (suc m) n e h =
    let id = whole n.item_id in
    let count = whole n.item_count in
    let signs = lt_z n.item_count (pos 0) || lt_z n.item_id (pos 0) in
    let test = cond (eqb count 0) (ltb last (at + max id 1)) (ltb items (id + count)) in
    let some : eqb count 0 ≡ false = ne_eqb count 0 (λ z. omega arith) in
    let passed : ltb items (id + count) ≡ false = rw some at (neither signs test e).1 in
    up_below id (suc m) items (omega (arith, ltb-false items (id + count) passed))

given_below : (l : Lent) (s : WalkState) {u : Turn} → Reading l s u → Below l.sizes.items u.given
given_below l s (refused_tree h e) = tt
given_below l s (entered_tree h e m) = tt
given_below l s (passed_tree h e m) = tt
given_below l s (refused_node h e) = tt
given_below l s (met_node h e m) =
    unfold handing in
    leaf_below s.at s.last l.sizes.items (handed_of l.sizes.items (node_of l s) s) (node_of l s) e (omega arith)
given_below l s (missed_node h e m) = tt

-- Rule W6 (01, Walk, 10): whatever the records hold.
pub walk_below : (l : Lent) (s : WalkState) → Below l.sizes.items (walk_from l s).given
walk_below l s =
    walk_ind l (λ (s : WalkState) (u : Turn). Below l.sizes.items u.given) (λ s e. tt)
    (λ s u e rest. every_append (λ x. x < l.sizes.items) (step_of l s).given u.given (given_below l s (reading l s)) rest) s

-- What holds of a refusal before reading, and of every walk that reads, holds of every outcome.
module _ (box : Aabb) (cen inverse : Vec3) (z : Sizes) (nodes trees : List ℕ) (room : ℕ) where
  abbrev lent : Lent
  lent = lent_of (query_of box cen inverse) z nodes trees

  abbrev outcome : Outcome
  outcome = walk_of box cen inverse z nodes trees room

  each : (P : Outcome → Type 0) → P (unread TooMany) → P (unread BufferTooShort) → P (ended (walk_from lent started)) → P outcome
  unfolding walk_of
  each P one two on = go (too_many z) (too_short z (length nodes) (length trees) room)
    where
      go : (a b : Bool) → P (cond a (unread TooMany) (cond b (unread BufferTooShort) (ended (walk_from lent started))))
      go true b = one
      go false true = two
      go false false = on

  -- Rule W10 (reads at most the sum over the trees of 1 + the range's length).
  pub reads_allowed : outcome.counts.reads ≤ allowance lent 0 z.trees
  reads_allowed =
      let n : z.trees - 0 ≡ z.trees = omega arith in
      each (λ (o : Outcome). o.counts.reads ≤ allowance lent 0 z.trees) (omega arith) (omega arith)
      (let h = rw n at (walk_reads lent started) in omega arith)

  pub handed_is : outcome.counts.handed ≡ length outcome.given
  handed_is =
      each (λ (o : Outcome). o.counts.handed ≡ length o.given) refl refl
      (omega (arith, walk_handed lent started))

  pub handed_few : outcome.counts.handed ≤ z.items
  handed_few =
      each (λ (o : Outcome). o.counts.handed ≤ z.items) (omega arith) (omega arith) (walk_within lent started (omega arith))

  -- each position is below the item count
  pub positions_below : Below z.items outcome.given
  positions_below = each (λ (o : Outcome). Below z.items o.given) tt tt (walk_below lent started)

-- A walk that ends with the number 0 has read all trees, and every range that it entered to its end.
pub record Exhausted (trees : ℕ) (s : WalkState) : Type 0 where
  pub range_read : s.last ≤ s.at
  pub trees_read : trees ≤ s.tree

-- the numbers of the refusals start at 1
pub refused_numbered : (r : WalkRefusal) → 1 ≤ refusal_number r
refused_numbered TooMany = omega arith
refused_numbered BufferTooShort = omega arith
refused_numbered TreeRange = omega arith
refused_numbered NodeRecord = omega arith
refused_numbered TooManyHandedOut = omega arith

exhausted_at : (trees : ℕ) (s : WalkState) (r : Result (Unit {0}) WalkRefusal) → s.status ≡ r → status_number r ≡ 0 → more trees s ≡ false → Exhausted trees s
exhausted_at trees s (Ok u) e n h =
    let k : (ltb s.at s.last || ltb s.tree trees) ≡ false = rw e at h in
    record {
      range_read = ltb-false s.at s.last (neither (ltb s.at s.last) (ltb s.tree trees) k).0;
      trees_read = ltb-false s.tree trees (neither (ltb s.at s.last) (ltb s.tree trees) k).1;
    }
exhausted_at trees s (Err r) e n h = let o : ⊥ = omega (arith, refused_numbered r) in absurd o

pub exhausted : (l : Lent) (s : WalkState) → status_number (walk_from l s).state.status ≡ 0 → Exhausted l.sizes.trees (walk_from l s).state
exhausted l s n = exhausted_at l.sizes.trees (walk_from l s).state (walk_from l s).state.status refl n (walk_ends l s)
