-- One record more, and one number more, in the order. Assumes nothing.
use Prim.Native.Nat.{ℕ, ◌+◌, ◌*◌, ◌≤◌, ◌<◌}
use native.Mathlib.Numerals.{add-one}
use native.Mathlib.Omega.{arith}
use mathlib.Core.List.{List, [], ◌∷◌, ◌++◌, map-append}
use mathlib.Core.Path.{◌≡◌, sym, ap, subst, ◌∙◌}
use borrow.Author.Tests.{lt-ltb, le-ltb}
use lib.ListN.{length, get_or, take, set, length-map}
use lib.Seq.{sets, get_or-take, length-take-le, take-suc}
use Rattle.base.proofs.EveryLaws.{every_at}
use Rattle.base.proofs.StoreLaws.{over_next, over_one}
use Rattle.base.specs.Lists.{over, Below}
use Rattle.corners.proofs.CornerLaws.{length_in_turn}
use Rattle.corners.specs.Corners.{none}
use Rattle.polygon.proofs.Sizes.{polygon_bytes_lem}
use Rattle.polygon.specs.Polygons.{polygon_bytes, polygon_at}
use Rattle.reorder.specs.Reordering.{in_order, lookup_of, renumbered, relinked, moved_to, rebuilt_record, rebuilt_records}
use Rattle.reorder.specs.Steps.Lent.{Reorderable, Rebuildable}
use Rattle.reorder.proofs.LookupLaws.{order_below, lookup_below}

-- ---- the order

-- each of the first n of an order that stays below a bound
pub order_at : (n m : ℕ) (order : List ℕ) (i : ℕ) → n ≤ length order → Below m (take n order) → i < n → get_or order i 0 < m
order_at n m order i long b h =
    subst (λ (x : ℕ). x < m) (get_or-take n order i 0 h) (every_at (λ x. x < m) (take n order) i b (omega (arith, length-take-le n order long)))

-- ---- a link

module _ (lookup : List ℕ) (old : ℕ) where
  pub renumbered_there : old < length lookup → renumbered lookup old ≡ get_or lookup old 0
  unfolding renumbered
  renumbered_there h = rw (lt-ltb old (length lookup) h)

  pub renumbered_past : length lookup ≤ old → renumbered lookup old ≡ none
  unfolding renumbered
  renumbered_past h = rw (le-ltb old (length lookup) h)

-- ---- records

pub length_rebuilt : (n : ℕ) (order lookup bytes : List ℕ) → length (rebuilt_records n order lookup bytes) ≡ 16 * n
length_rebuilt n order lookup bytes =
    length_in_turn 16 (rebuilt_record order lookup bytes) n (λ k h. (polygon_bytes_lem (relinked lookup (moved_to order bytes k))).size)

-- Once i records are in the order, one more; `old` is the place at position i.
pub records_next : (order lookup bytes before : List ℕ) (i old : ℕ) {now next : List ℕ} → 16 * i + 16 ≤ length before → old ≡ get_or order i 0
    → now ≡ over (rebuilt_records i order lookup bytes) before
    → next ≡ sets now (16 * i) (polygon_bytes (relinked lookup (polygon_at bytes (16 * old))))
    → next ≡ over (rebuilt_records (i + 1) order lookup bytes) before
records_next order lookup bytes before i old h o e f =
    let part = rebuilt_record order lookup bytes i in
    let many = length_rebuilt i order lookup bytes in
    f
    ∙ ap (λ (l : List ℕ). sets l (16 * i) (polygon_bytes (relinked lookup (polygon_at bytes (16 * old))))) e
    ∙ ap (λ (k : ℕ). sets (over (rebuilt_records i order lookup bytes) before) (16 * i) (polygon_bytes (relinked lookup (polygon_at bytes (16 * k))))) o
    ∙ over_next (rebuilt_records i order lookup bytes) part before (16 * i) many
    (omega (arith, (polygon_bytes_lem (relinked lookup (moved_to order bytes i))).size))
    ∙ ap (λ (k : ℕ). over (rebuilt_records k order lookup bytes) before) (sym (add-one i))

-- What `reorder` asks of the lookup that `fill_lookup` made.
pub reorderable : (n : ℕ) (order lookup₀ lookup polygons out : List ℕ) → Rebuildable n order lookup₀ polygons out → lookup ≡ lookup_of n (take n order)
    → Reorderable n order lookup polygons out
reorderable n order lookup₀ lookup polygons out b e =
    let w = b.numbering in
    let long = length-take-le n order w.long in
    record {
      few = w.few;
      long = w.long;
      below = order_below n (take n order) long w.each_once;
      small = subst (Below 65536) (sym e) (lookup_below n 65536 (take n order) (omega (arith, w.few)));
      records = b.records;
      room = b.room;
    }

-- ---- numbers

pub numbers_next : (order numbers before : List ℕ) (i x : ℕ) {now : List ℕ} → i < length order → i < length before → x ≡ get_or numbers (get_or order i 0) 0
    → now ≡ over (in_order (take i order) numbers) before → set now i x ≡ over (in_order (take (i + 1) order) numbers) before
numbers_next order numbers before i x h room o e =
    let many : length (in_order (take i order) numbers) ≡ i =
    length-map (take i order) (λ old. get_or numbers old 0) ∙ length-take-le i order (omega arith) in
    let more : take (i + 1) order ≡ take i order ++ (get_or order i 0 ∷ []) = ap (λ (k : ℕ). take k order) (add-one i) ∙ take-suc order i 0 h in
    ap (λ (l : List ℕ). set l i x) e
    ∙ over_one (in_order (take i order) numbers) before x i many room
    ∙ ap (λ (y : ℕ). over (in_order (take i order) numbers ++ (y ∷ [])) before) o
    ∙ ap (λ (l : List ℕ). over l before)
    (sym (ap (λ (l : List ℕ). in_order l numbers) more ∙ map-append (λ old. get_or numbers old 0) (take i order) (get_or order i 0 ∷ [])))
