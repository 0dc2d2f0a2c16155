-- The loops of a walk: the walk from one state leads through another, as a reading and the rest, over trees passed, or by two ways put together.
use Rattle.std.specs.Prelude.{◌≡◌, ℕ, ◌+◌, ◌-◌, ◌*◌, ◌<◌, ◌≤◌, true, false, List, [], ◌++◌, length}
use mathlib.Core.Path.{refl, sym, ap, subst, ◌∙◌}
use mathlib.Core.List.{append_assoc, append-nil}
use native.Mathlib.Omega.{arith}
use borrow.Author.Tests.{le-ltb}
use lib.ListN.{length-append}
use lib.Seq.{sets, length-sets}
use Rattle.base.proofs.StoreLaws.{sets_append}
use Rattle.base.proofs.NumberLaws.{length_up}
use Rattle.base.specs.Lists.{up_from}
use Rattle.records.specs.Records.{node_at, tree_at}
use Rattle.walk_steps.specs.Step.{Lent, lent_of, Turn, started, more, at_tree, at_node, step_of}
use Rattle.walk.specs.Walks.{joined, left, walk_from}
use Rattle.walk_steps.specs.Steps.Contracts.{Steppable, Stepped, Ran, ahead_at, inside_range}
use Rattle.walk.specs.Steps.Passing.{PassedUpTo, Ready, Came}
use Rattle.walk_steps.specs.declared.boxes.Query.{Query}
use Rattle.walk_steps.specs.declared.state.Sizes.{Sizes}
use Rattle.walk_steps.specs.declared.state.Step.{Step}
use Rattle.walk_steps.specs.declared.state.WalkState.{WalkState}
use Rattle.walk.proofs.PassLaws.{is_going, inside_more, inside_at, outside_at, tree_more, walk_passes}
use Rattle.walk_steps.proofs.SameTurn.{stepped_as}
use Rattle.walk_steps.proofs.StepLaws.{step_node, step_tree, more_going, more_tree}
use Rattle.walk.proofs.WalkLaws.{walk_more, walk_none, step_falls, step_reads, step_handed, step_handed_within, step_last_within, allowance_few}

pub begun : (l : Lent) (out : List ℕ) → Steppable l.sizes l.nodes l.trees started → l.sizes.items ≤ length out → Ready l out started
begun l out p q =
    record {
      fits = p;
      places = q;
      allowed =
          let n : l.sizes.trees - 0 ≡ l.sizes.trees = omega arith in
          rw n (omega (arith, p.few_trees, allowance_few l 0 l.sizes.trees p.few_nodes));
    }

-- from a state to itself
pub here : (l : Lent) (out : List ℕ) (s : WalkState) → Ready l out s → Came l s out out s
here l out s r = record { ready = r; given = []; whole_is = refl; stored = refl; counted = omega arith; falls = omega arith }

-- one way after another
pub onto : (l : Lent) (s m r : WalkState) (before mid out : List ℕ) → Came l s before mid m → Came l m mid out r → Came l s before out r
onto l s m r before mid out a b =
    let rest = walk_from l r in
    record {
      ready = b.ready;
      given = a.given ++ b.given;
      whole_is =
          a.whole_is
          ∙ ap (joined (record { state = m; given = a.given })) b.whole_is
          ∙ (λ i. record { state = rest.state; given = sym (append_assoc a.given b.given rest.given) i });
      stored =
          b.stored
          ∙ ap (λ (x : List ℕ). sets x m.handed b.given) a.stored
          ∙ sets_append a.given b.given before s.handed m.handed (sym a.counted);
      counted = omega (arith, length-append a.given b.given, a.counted, b.counted);
      falls = omega (arith, a.falls, b.falls);
    }

pub same_length : (l : Lent) (s r : WalkState) (before out : List ℕ) → Came l s before out r → length out ≡ length before
same_length l s r before out g = ap length g.stored ∙ length-sets before s.handed g.given

pub finished : (l : Lent) (s : WalkState) (before out : List ℕ) → Came l started before out s → more l.sizes.trees s ≡ false
    → Ran (walk_from l started) before out s
finished l s before out g e =
    let so_far : Turn = record { state = s; given = g.given } in
    let w : walk_from l started ≡ record { state = s; given = g.given ++ [] } = g.whole_is ∙ ap (joined so_far) (walk_none l s e) in
    record {
      state_is = ap (λ (t : Turn). t.state) (sym w);
      output_is = g.stored ∙ ap (sets before 0) (sym (ap (λ (t : Turn). t.given) w ∙ append-nil g.given));
    }

-- the whole walk, from a start that was made, and of the query that the lanes stand for
pub done : (p q : Query) (z : Sizes) (nodes trees : List ℕ) (u s : WalkState) (before out : List ℕ) → p ≡ q → u ≡ started
    → Came (lent_of p z nodes trees) u before out s → more z.trees s ≡ false → Ran (walk_from (lent_of q z nodes trees) started) before out s
done p q z nodes trees u s before out k e g m =
    let l = lent_of p z nodes trees in
    subst (λ (q : Query). Ran (walk_from (lent_of q z nodes trees) started) before out s) k
    (finished l s before out (subst (λ (v : WalkState). Came l v before out s) e g) m)

-- ---- one reading, by the machine of the definition
module _ (l : Lent) (out : List ℕ) (s : WalkState) (g : Ready l out s) (e : more l.sizes.trees s ≡ true) where
  on : (out' : List ℕ) → out' ≡ sets out s.handed (step_of l s).given → Came l s out out' (step_of l s).state
  on out' o =
      let p = g.fits in
      let u = step_of l s in
      let n : length out' ≡ length out = ap length o ∙ length-sets out s.handed u.given in
      let f = step_falls l s e in
      record {
        ready =
            record {
              fits =
                  record {
                    few_nodes = p.few_nodes;
                    few_trees = p.few_trees;
                    few_items = p.few_items;
                    node_bytes = p.node_bytes;
                    tree_bytes = p.tree_bytes;
                    last_in = step_last_within l s p.last_in;
                    handed_in = step_handed_within l s p.handed_in;
                    few_reads = omega (arith, step_reads l s, g.allowed);
                  };
              places = omega (arith, g.places);
              allowed = omega (arith, step_reads l s, g.allowed);
            };
        given = u.given;
        whole_is = walk_more l s e;
        stored = o;
        counted = step_handed l s;
        falls = omega arith;
      }

  module _ (r : Step) (p : Stepped (step_of l s) r) where
    state_is : r.state ≡ (step_of l s).state
    state_is = ap (λ (t : Turn). t.state) p.turn_is

    given_is : up_from r.first.0 r.count ≡ (step_of l s).given
    given_is = ap (λ (t : Turn). t.given) p.turn_is

    -- the run has room in the output
    room : s.handed + r.count ≤ length out
    room =
        let n : length (step_of l s).given ≡ r.count = sym (ap length given_is) ∙ length_up r.first.0 r.count in
        omega (arith, g.places, step_handed l s, step_handed_within l s g.fits.handed_in)

    stepped_falls : left l r.state < left l s
    stepped_falls = subst (λ (u : WalkState). left l u < left l s) (sym state_is) (step_falls l s e)

    read : (out' : List ℕ) → out' ≡ sets out s.handed (up_from r.first.0 r.count) → Came l s out out' r.state
    read out' o = subst (Came l s out out') (sym state_is) (on out' (o ∙ ap (sets out s.handed) given_is))

-- ---- a node of the range
module _ (l : Lent) (out : List ℕ) (s : WalkState) (g : Ready l out s) (e : inside_range s ≡ true) (r : Step)
    (p : Stepped (at_node l.query l.sizes.items (node_at l.nodes (16 * s.at)) s) r) where
  some_left : more l.sizes.trees s ≡ true
  some_left = inside_more l.sizes.trees s e

  by_step : Stepped (step_of l s) r
  by_step = stepped_as (sym (step_node l s (inside_at s e))) p

  pub node_room : s.handed + r.count ≤ length out
  node_room = room l out s g some_left r by_step

  pub node_falls : left l r.state < left l s
  node_falls = stepped_falls l out s g some_left r by_step

  pub node_read : (out' : List ℕ) → out' ≡ sets out s.handed (up_from r.first.0 r.count) → Came l s out out' r.state
  node_read = read l out s g some_left r by_step

-- ---- trees
module _ (l : Lent) (out : List ℕ) (s : WalkState) (upto : ℕ) (g : Ready l out s) (u : upto ≤ l.sizes.trees) (e : more upto s ≡ true)
    (o : inside_range s ≡ false) where
  outside : s.last ≤ s.at
  outside = outside_at s (more_going upto s e) o

  pub tree_in : s.tree < upto
  tree_in = more_tree upto s e outside

  module _ (t : ℕ) (p : PassedUpTo l.query l.sizes.nodes l.trees s.tree upto t) where
    passed : Came l s out out (ahead_at t s)
    passed =
        let b = walk_passes l s upto t (is_going s.status (more_going upto s e)) outside u p in
        let f = g.fits in
        record {
          ready =
              record {
                fits =
                    record {
                      few_nodes = f.few_nodes;
                      few_trees = f.few_trees;
                      few_items = f.few_items;
                      node_bytes = f.node_bytes;
                      tree_bytes = f.tree_bytes;
                      last_in = f.last_in;
                      handed_in = f.handed_in;
                      few_reads = omega (arith, b.left_falls, g.allowed);
                    };
                places = g.places;
                allowed = omega (arith, b.left_falls, g.allowed);
              };
          given = [];
          whole_is = b.walk_is;
          stored = refl;
          counted = omega arith;
          falls = omega (arith, b.left_falls);
        }

    -- all trees are passed over
    all_ahead : upto ≤ t → Came l s out out (ahead_at t s) × (inside_range (ahead_at t s) ≡ false) × (left l (ahead_at t s) < left l s)
    all_ahead h =
        let b = walk_passes l s upto t (is_going s.status (more_going upto s e)) outside u p in
        let k = tree_in in
        (passed, le-ltb s.at s.last outside, omega (arith, b.left_falls))

    pub all_passed : (r : WalkState) → r ≡ ahead_at t s → upto ≤ t → Came l s out out r × (inside_range r ≡ false) × (left l r < left l s)
    all_passed r k h =
        subst (λ (u : WalkState). Came l s out out u × (inside_range u ≡ false) × (left l u < left l s)) (sym k) (all_ahead h)

    -- or the next one is read
    module _ (h : t < upto) where
      stands : more l.sizes.trees (ahead_at t s) ≡ true
      stands = tree_more l.sizes.trees (ahead_at t s) refl (omega arith)

      pub stood : (q : WalkState) → q ≡ ahead_at t s → (16 * q.tree + 16 ≤ length l.trees) × (q.tree < 65536) × (q.reads < 4294967296)
      stood q k =
          let f = g.fits in
          let c = passed in
          subst (λ (u : WalkState). (16 * u.tree + 16 ≤ length l.trees) × (u.tree < 65536) × (u.reads < 4294967296)) (sym k)
          (omega (arith, f.tree_bytes), omega (arith, f.few_trees), c.ready.fits.few_reads)

      ahead_read : Came l s out out (step_of l (ahead_at t s)).state × (left l (step_of l (ahead_at t s)).state < left l s)
      ahead_read =
          let c = passed in
          let none : (step_of l (ahead_at t s)).given ≡ [] = ap (λ (u : Turn). u.given) (step_tree l (ahead_at t s) outside) in
          let f = step_falls l (ahead_at t s) stands in (
            onto l s (ahead_at t s) _ out out out c (on l out (ahead_at t s) c.ready stands out (sym (ap (sets out s.handed) none))),
            omega (arith, c.falls),
          )

      pub taken : (q r : WalkState) → q ≡ ahead_at t s → r ≡ at_tree l.query l.sizes.nodes (tree_at l.trees (16 * q.tree)) q
          → Came l s out out r × (left l r < left l s)
      taken q r k m =
          let at-it : WalkState → WalkState = λ (v : WalkState). at_tree l.query l.sizes.nodes (tree_at l.trees (16 * v.tree)) v in
          let is : r ≡ (step_of l (ahead_at t s)).state = m ∙ ap at-it k ∙ sym (ap (λ (u : Turn). u.state) (step_tree l (ahead_at t s) outside)) in
          subst (λ (v : WalkState). Came l s out out v × (left l v < left l s)) (sym is) ahead_read

-- the way on behind the tree
pub beyond : (l : Lent) (s m r : WalkState) (out out' : List ℕ) → Came l s out out m × (left l m < left l s)
    → Came l m out out' r × (inside_range r ≡ false) → Came l s out out' r × (inside_range r ≡ false) × (left l r < left l s)
beyond l s m r out out' a b = (onto l s m r out out out' a.0 b.0, b.1, omega (arith, b.0.falls, a.1))
