-- The loops over a list of kept vertices: a thinning in place (`Thinning`: what stands,
-- followed by what the rest gives, is the whole), and the vertices one after the other (`Gathering`).
use mathlib.Core.Path.{◌≡◌, refl, sym, ap, ◌∙◌}
use mathlib.Core.Bool.{Bool, true, false, not, ◌||◌}
use mathlib.Core.List.{List, [], ◌∷◌, ◌++◌, append-nil}
use Prim.Native.Nat.{ℕ, zero, suc, ◌+◌, ◌*◌, ◌≤◌, ◌<◌}
use native.Mathlib.Omega.{arith}
use native.Mathlib.Decide.{dec_lt}
use native.Mathlib.Numerals.{add-one}
use lib.ListN.{length, get_or, set, take, drop, length-set, drop_of_length-le, length-append, length-drop, length-take}
use lib.Seq.{take-suc-set, drop-set-lt, append_snoc, length-take-le, take-append-le}
use Rattle.std.specs.List.{list_any}
use Rattle.base.specs.Lists.{sift, over, Below}
use Rattle.base.proofs.ListLaws.{length_sift}
use Rattle.base.proofs.StoreLaws.{rest_one}
use Rattle.base.proofs.EveryLaws.{every_append, every_sift}
use Rattle.base.proofs.NumberLaws.{below_wider}
use Rattle.shadows.specs.Kept.{some, admit, kept_of}
use Rattle.shadows.proofs.MaximaLaws.{admit_passes, admit_joins, kept_below}
use Rattle.far_order.specs.Rows.{shadowed_at, Written}
use Rattle.maxima.specs.Steps.Keeping.{Begins, Admissible}

-- ---- one that passes

pub some_at : (p : ℕ → Bool) (ks : List ℕ) (k : ℕ) → k < length ks → p (get_or ks k 0) ≡ true → some p ks ≡ true
some_at p [] k h e = absurd (omega arith)
some_at p (x ∷ xs) zero h e = rw e
some_at p (x ∷ xs) (suc k) h e = ap (λ (b : Bool). p x || b) (some_at p xs k (omega arith) e) ∙ or_true (p x)
  where
    or_true : (a : Bool) → (a || true) ≡ true
    or_true true = refl
    or_true false = refl

pub any_is_some : (p : ℕ → Bool) (ks : List ℕ) → list_any p ks ≡ some p ks
any_is_some p [] = refl
any_is_some p (k ∷ ks) = ap (λ (b : Bool). p k || b) (any_is_some p ks)

-- ---- a thinning in place

pub record Thinning (p : ℕ → Bool) (before now : List ℕ) (left k : ℕ) : Type 0 where
  pub behind : left ≤ k
  pub upto : k ≤ length before
  pub len : length now ≡ length before
  pub made : take left now ++ sift p (drop k before) ≡ sift p before
  pub rest : drop k now ≡ drop k before

pub unthinned : (p : ℕ → Bool) (before : List ℕ) → Thinning p before before 0 0
unthinned p before = record { behind = omega arith; upto = omega arith; len = refl; made = refl; rest = refl }

module _ (p : ℕ → Bool) (before now : List ℕ) (left k : ℕ) (t : Thinning p before now left k) (h : k < length before) where
  both : get_or now k 0 ∷ drop (k + 1) now ≡ get_or before k 0 ∷ drop (k + 1) before
  both = sym (rest_one now k (omega (arith, t.len))) ∙ t.rest ∙ rest_one before k h

  pub same_here : get_or now k 0 ≡ get_or before k 0
  same_here = let e = both in cc

  same_rest : drop (k + 1) now ≡ drop (k + 1) before
  same_rest = let e = both in cc

  pub taken_out : p (get_or now k 0) ≡ false → Thinning p before now left (k + 1)
  taken_out e =
      let f : p (get_or before k 0) ≡ false = rw same_here at e in
      record {
        behind = omega (arith, t.behind);
        upto = omega arith;
        len = t.len;
        made = sym (ap (λ (l : List ℕ). take left now ++ sift p l) (rest_one before k h) ∙ rw f) ∙ t.made;
        rest = same_rest;
      }

  pub left_in : p (get_or now k 0) ≡ true → Thinning p before (set now left (get_or now k 0)) (left + 1) (k + 1)
  left_in e =
      let x = get_or now k 0 in
      let f : p (get_or before k 0) ≡ true = rw same_here at e in
      let g : sift p (drop k before) ≡ x ∷ sift p (drop (k + 1) before) = ap (sift p) (rest_one before k h) ∙ rw (f, same_here) in
      record {
        behind = omega (arith, t.behind);
        upto = omega arith;
        len = length-set now left x ∙ t.len;
        made =
            rw (add-one left, take-suc-set now left x (omega (arith, t.behind, t.len)))
            (append_snoc (take left now) x (sift p (drop (k + 1) before)) ∙ ap (λ (l : List ℕ). take left now ++ l) (sym g) ∙ t.made);
        rest = drop-set-lt (k + 1) now left x (omega (arith, t.behind)) ∙ same_rest;
      }

pub thinned : (p : ℕ → Bool) (before now : List ℕ) (left k : ℕ) → Thinning p before now left k → length before ≤ k → Begins (sift p before) now left
thinned p before now left k t h =
    let e : take left now ≡ sift p before = sym (append-nil (take left now)) ∙ rw (drop_of_length-le before {i = k} h) at t.made in
    record { count = sym (length-take-le left now (omega (arith, t.behind, t.upto, t.len))) ∙ ap length e; list = e }

-- ---- a vertex more

module _ (shadowed : ℕ → ℕ → Bool) (kept : List ℕ) (count i : ℕ) (room : count < length kept) where
  pub passes_over : some (shadowed i) (take count kept) ≡ true → Begins (admit shadowed (take count kept) i) kept count
  passes_over e =
      let f = sym (admit_passes shadowed (take count kept) i e) in
      record { count = sym (length-take-le count kept (omega arith)) ∙ ap length f; list = f }

  pub fewer : (part : List ℕ) (left : ℕ) → Begins (sift (λ k. not (shadowed k i)) (take count kept)) part left → left ≤ count
  fewer part left g =
      omega (arith, g.count, length_sift (λ k. not (shadowed k i)) (take count kept), length-take-le count kept (omega arith))

  pub has_place : (part : List ℕ) (left : ℕ) → length part ≡ count → Begins (sift (λ k. not (shadowed k i)) (take count kept)) part left
      → left < length (part ++ drop count kept)
  has_place part left e g = omega (arith, fewer part left g, length-append part (drop count kept), length-drop count kept)

  -- `part` is what the thinning left of the first `count`
  pub joins : (part : List ℕ) (left : ℕ) → length part ≡ count → some (shadowed i) (take count kept) ≡ false
      → Begins (sift (λ k. not (shadowed k i)) (take count kept)) part left
      → Begins (admit shadowed (take count kept) i) (set (part ++ drop count kept) left i) (left + 1)
  joins part left e f g =
      let spared = sift (λ k. not (shadowed k i)) (take count kept) in
      let a : admit shadowed (take count kept) i ≡ spared ++ (i ∷ []) = admit_joins shadowed (take count kept) i f in
      let t : take (suc left) (set (part ++ drop count kept) left i) ≡ spared ++ (i ∷ []) =
      take-suc-set (part ++ drop count kept) left i (has_place part left e g)
      ∙ ap (λ (l : List ℕ). l ++ (i ∷ [])) (take-append-le left part (drop count kept) (omega (arith, fewer part left g)) ∙ g.list) in
      record {
        count = omega (arith, g.count, length-append spared (i ∷ []), ap length a);
        list = rw add-one (t ∙ sym a);
      }

  pub placed : (part : List ℕ) (left : ℕ) → length part ≡ count → Begins (sift (λ k. not (shadowed k i)) (take count kept)) part left
      → left + 1 ≤ length (set (part ++ drop count kept) left i)
  placed part left e g = omega (arith, has_place part left e g, length-set (part ++ drop count kept) left i)

-- ---- all vertices, one after the other

-- those that are kept have their rows
pub joined_below : (shadowed : ℕ → ℕ → Bool) (n i : ℕ) (kept : List ℕ) → i < n → Below n kept → some (shadowed i) kept ≡ false
    → Below n (admit shadowed kept i)
joined_below shadowed n i kept l w e =
    let spared = sift (λ k. not (shadowed k i)) kept in
    rw (admit_joins shadowed kept i e)
    (every_append (λ x. x < n) spared (i ∷ []) (every_sift (λ x. x < n) (λ k. not (shadowed k i)) kept w) (l, tt))

pub all_below : (shadowed : ℕ → ℕ → Bool) (n i : ℕ) (kept now : List ℕ) (r : ℕ) → i < n → Below n kept → some (shadowed i) kept ≡ false
    → Begins (admit shadowed kept i) now r → Below n (take r now)
all_below shadowed n i kept now r l w e b = rw b.list (joined_below shadowed n i kept l w e)

-- the vertices below i are done, and what is kept of them stands at the start
pub record Gathering (n : ℕ) (rows before kept : List ℕ) (count i : ℕ) : Type 0 where
  pub upto : i ≤ n
  pub len : length kept ≡ length before
  pub so_far : Begins (kept_of (shadowed_at n rows) i) kept count

module _ (n : ℕ) (rows before kept : List ℕ) (count i : ℕ) (g : Gathering n rows before kept count i) (h : i < n) where
  pub fitting : count ≤ length kept
  fitting = omega (arith, g.so_far.count, ap length (sym g.so_far.list), length-take count kept)

  pub admissible : 4 * n ≤ length rows → n ≤ 32768 → (count ≡ length kept → ⊥) → Admissible n rows i kept count
  admissible size few more =
      record {
        room = other (dec_lt count (length kept));
        testable =
            record {
              size = size;
              few = few;
              vertex = h;
              below = rw g.so_far.list (below_wider i n (kept_of (shadowed_at n rows) i) (omega arith) (kept_below (shadowed_at n rows) i));
            };
      }
    where
      other : Dec (count < length kept) → count < length kept
      other (yes l) = l
      other (no l) = absurd (more (omega (arith, fitting)))

  pub one_more : (now : List ℕ) (r : ℕ) → length now ≡ length kept → Begins (admit (shadowed_at n rows) (take count kept) i) now r
      → Gathering n rows before now r (i + 1)
  one_more now r l b = record { upto = omega arith; len = l ∙ g.len; so_far = rw add-one (rw g.so_far.list at b) }

pub gathered : (n : ℕ) (rows before kept : List ℕ) (count i : ℕ) → Gathering n rows before kept count i → n ≤ i
    → Begins (kept_of (shadowed_at n rows) n) kept count
gathered n rows before kept count i g h =
    let e : i ≡ n = omega (arith, g.upto) in
    rw e at g.so_far

-- ---- written out

pub written_out : (xs part rest before after : List ℕ) (r : ℕ) → Begins xs part r → after ≡ over (take r (part ++ rest)) before
    → Written xs before after r
written_out xs part rest before after r b e =
    let l : r ≤ length part = omega (arith, b.count, ap length b.list, length-take r part) in
    record {
      count = b.count;
      list = e ∙ ap (λ (u : List ℕ). over u before) (take-append-le r part rest l ∙ b.list);
    }
