-- What `slices::walk_core` answers, by the outcome of its checks.
use Rattle.std.specs.Prelude.{◌≡◌, ℕ, ◌*◌, ◌≤◌, true, false, ◌||◌, ltb, List, length}
use mathlib.Core.Path.{refl, ap, subst, ◌∙◌}
use native.Mathlib.Omega.{arith}
use lib.Dec.{lit<}
use borrow.Author.Tests.{ltb-false}
use Rattle.base.proofs.Truth.{neither}
use Rattle.base.proofs.StoreLaws.{sets_over}
use Rattle.math.specs.declared.aabb.Aabb.{Aabb}
use Rattle.math.specs.declared.vec3.Vec3.{Vec3}
use Rattle.walk_steps.specs.Boxes.{query_of}
use Rattle.walk_steps.specs.Step.{Lent, lent_of, started}
use Rattle.walk.specs.Walks.{Walk, walk_from, status_number, number_of, counts_of, unread, ended, too_many, too_short, walk_of, Outcome, Promise}
use Rattle.walk_steps.specs.Steps.Contracts.{Steppable, Ran}
use Rattle.walk_steps.specs.declared.boxes.Query.{Query}
use Rattle.walk_steps.specs.declared.refusals.WalkRefusal.TheVariants.{TooMany, BufferTooShort}
use Rattle.walk_steps.specs.declared.state.Sizes.{Sizes}
use Rattle.walk_steps.specs.declared.state.WalkState.{WalkState}
use Rattle.walk.proofs.WalkLaws.{walk_handed, walk_within}

-- ---- what the checks show
pub record Few (z : Sizes) : Type 0 where
  pub nodes : z.nodes ≤ 65535
  pub trees : z.trees ≤ 65535
  pub items : z.items ≤ 65535

pub few : (z : Sizes) → too_many z ≡ false → Few z
few z e =
    let r = (neither (ltb 65535 z.nodes) (ltb 65535 z.trees || ltb 65535 z.items) e).1 in
    record {
      nodes = ltb-false 65535 z.nodes (neither (ltb 65535 z.nodes) (ltb 65535 z.trees || ltb 65535 z.items) e).0;
      trees = ltb-false 65535 z.trees (neither (ltb 65535 z.trees) (ltb 65535 z.items) r).0;
      items = ltb-false 65535 z.items (neither (ltb 65535 z.trees) (ltb 65535 z.items) r).1;
    }

pub record Ready (z : Sizes) (nodes trees out : List ℕ) : Type 0 where
  pub fits : Steppable z nodes trees started
  pub places : z.items ≤ length out

pub ready : (z : Sizes) (nodes trees out : List ℕ) → too_many z ≡ false → too_short z (length nodes) (length trees) (length out) ≡ false
    → Ready z nodes trees out
ready z nodes trees out e s =
    let f = few z e in
    let n : _ = ltb (length nodes) (16 * z.nodes) in
    let t : _ = ltb (length trees) (16 * z.trees) in
    let o : _ = ltb (length out) z.items in
    let r = (neither n (t || o) s).1 in
    record {
      fits =
          record {
            few_nodes = f.nodes;
            few_trees = f.trees;
            few_items = f.items;
            node_bytes = ltb-false (length nodes) (16 * z.nodes) (neither n (t || o) s).0;
            tree_bytes = ltb-false (length trees) (16 * z.trees) (neither t o r).0;
            last_in = omega arith;
            handed_in = omega arith;
            few_reads = lit< tt;
          };
      places = ltb-false (length out) z.items (neither t o r).1;
    }

-- ---- the answers
module _ (box : Aabb) (cen inverse : Vec3) (z : Sizes) (nodes trees out : List ℕ) where
  abbrev outcome : Outcome
  outcome = walk_of box cen inverse z nodes trees (length out)

  abbrev lent : Lent
  lent = lent_of (query_of box cen inverse) z nodes trees

  pub many : (r : Walk) → too_many z ≡ true → number_of r ≡ (unread TooMany).number → counts_of r ≡ (unread TooMany).counts → Promise outcome out out r
  unfolding walk_of
  many r e n c = rw e (record { number_is = n; counts_are = c; output_is = refl })

  module _ (e : too_many z ≡ false) where
    pub short : (r : Walk) → too_short z (length nodes) (length trees) (length out) ≡ true
        → number_of r ≡ (unread BufferTooShort).number → counts_of r ≡ (unread BufferTooShort).counts → Promise outcome out out r
    unfolding walk_of
    short r s n c = rw (e, s) (record { number_is = n; counts_are = c; output_is = refl })

    module _ (s : too_short z (length nodes) (length trees) (length out) ≡ false) where
      outcome_is : outcome ≡ ended (walk_from lent started)
      unfolding walk_of
      outcome_is = rw (e, s)

      fits_out : length (walk_from lent started).given ≤ length out
      fits_out =
          let p = ready z nodes trees out e s in
          omega (arith, walk_handed lent started, walk_within lent started p.fits.handed_in, p.places)

      pub answered : (q : Query) (u : WalkState) (out' : List ℕ) (r : Walk) → q ≡ query_of box cen inverse
          → Ran (walk_from (lent_of q z nodes trees) started) out out' u
          → number_of r ≡ status_number u.status → counts_of r ≡ record { reads = u.reads; handed = u.handed } → Promise outcome out out' r
      answered q u out' r k p a b =
          let w = subst (λ (q : Query). Ran (walk_from (lent_of q z nodes trees) started) out out' u) k p in
          rw outcome_is
          (record {
            number_is = a ∙ ap (λ (u : WalkState). status_number u.status) w.state_is;
            counts_are = b ∙ ap (λ (u : WalkState). record { reads = u.reads; handed = u.handed }) w.state_is;
            output_is = w.output_is ∙ sets_over (walk_from lent started).given out fits_out;
          })
