-- The invariant of the loops that write: the buffer holds what is written so far, and behind it what it had.
use Prim.Native.Nat.{ℕ, ◌+◌, ◌-◌, ◌*◌, ◌≤◌, ◌<◌}
use native.Mathlib.Nat.{sub_self}
use native.Mathlib.Omega.{arith}
use native.Mathlib.Numerals.{add-one}
use mathlib.Core.Path.{◌≡◌, refl, sym, ap, ◌∙◌, subst}
use mathlib.Core.List.{List, [], ◌∷◌, ◌++◌, append-nil}
use lib.ListN.{length, get_or, take, set, length-set}
use lib.Seq.{sets, length-sets, length-take-le, take-suc}
use Rattle.base.proofs.StoreLaws.{store_next, over_next, over_one}
use Rattle.base.specs.Lists.{over}
use Rattle.records.specs.declared.BvhNode.{BvhNode}
use Rattle.records.specs.declared.scale.Scale.{Scale}
use Rattle.records.specs.Records.{node_bytes}
use Rattle.records.proofs.Sizes.{node_bytes_lem}
use Rattle.rows.specs.Rows.{Row}
use Rattle.rows.specs.Output.{node_of, nodes_bytes, pad_node, pad_bytes}
use Rattle.rows.specs.Steps.Table.{row_at, rows_in}
use Rattle.rows.proofs.EmitLaws.{length_nodes, nodes_append, length_pad, pad_more}
use Rattle.rows.proofs.TableLaws.{length_rows_in, row_in}

pub record Writing (before buffer written : List ℕ) (i last : ℕ) : Type 0 where
  pub upto : i ≤ last
  pub same : length buffer ≡ length before
  pub held : buffer ≡ over written before

-- one number more
pub number_next : (before buffer xs : List ℕ) (i : ℕ) → Writing before buffer (take i xs) i (length xs) → i < length xs → i < length before
    → Writing before (set buffer i (get_or xs i 0)) (take (i + 1) xs) (i + 1) (length xs)
number_next before buffer xs i w h room =
    record {
      upto = omega arith;
      same = length-set buffer i (get_or xs i 0) ∙ w.same;
      held =
          ap (λ (l : List ℕ). set l i (get_or xs i 0)) w.held
          ∙ over_one (take i xs) before (get_or xs i 0) i (length-take-le i xs w.upto) room
          ∙ ap (λ (l : List ℕ). over l before) (sym (ap (λ (k : ℕ). take k xs) (add-one i) ∙ take-suc xs i 0 h));
    }

-- one record more
pub record_next : (before buffer written after : List ℕ) (n : BvhNode) (i last : ℕ) → Writing before buffer written i last → i < last
    → length written ≡ 16 * i
    → 16 * last ≤ length before → after ≡ sets buffer (16 * i) (node_bytes n)
    → Writing before after (written ++ node_bytes n) (i + 1) last
record_next before buffer written after n i last w h at room e =
    record {
      upto = omega arith;
      same = ap length e ∙ length-sets buffer (16 * i) (node_bytes n) ∙ w.same;
      held =
          e
          ∙ ap (λ (l : List ℕ). sets l (16 * i) (node_bytes n)) w.held
          ∙ over_next written (node_bytes n) before (16 * i) at (omega (arith, (node_bytes_lem n).size));
    }

module _ (s : Scale) (th : ℕ) (order : List ℕ) where
  pub length_first : (rs : List Row) (i : ℕ) → i ≤ length rs → length (nodes_bytes s th order (take i rs)) ≡ 16 * i
  length_first rs i h = length_nodes s th order (take i rs) ∙ ap (λ (k : ℕ). 16 * k) (length-take-le i rs h)

  -- the bytes of one row more
  pub rows_next : (rs : List Row) (i : ℕ) (d : Row) → i < length rs
      → nodes_bytes s th order (take i rs) ++ node_bytes (node_of s th order (get_or rs i d)) ≡ nodes_bytes s th order (take (i + 1) rs)
  rows_next rs i d h =
      let r = get_or rs i d in
      ap (λ (bs : List ℕ). nodes_bytes s th order (take i rs) ++ bs) (sym (append-nil (node_bytes (node_of s th order r))))
      ∙ sym (nodes_append s th order (take i rs) (r ∷ []))
      ∙ ap (nodes_bytes s th order) (sym (ap (λ (k : ℕ). take k rs) (add-one i) ∙ take-suc rs i d h))

  -- the record of row i more
  pub row_next : (m : ℕ) (table before buffer after : List ℕ) (n : BvhNode) (i : ℕ)
      → Writing before buffer (nodes_bytes s th order (take i (rows_in m table))) i m → i < m → n ≡ node_of s th order (row_at table i)
      → 16 * m ≤ length before → after ≡ sets buffer (16 * i) (node_bytes n)
      → Writing before after (nodes_bytes s th order (take (i + 1) (rows_in m table))) (i + 1) m
  row_next m table before buffer after n i w h node room e =
      let rs = rows_in m table in
      let d = row_at table i in
      let many : length rs ≡ m = length_rows_in m table in
      let bytes : nodes_bytes s th order (take i rs) ++ node_bytes n ≡ nodes_bytes s th order (take (i + 1) rs) =
      ap (λ (m : BvhNode). nodes_bytes s th order (take i rs) ++ node_bytes m) (node ∙ ap (node_of s th order) (sym (row_in m table i d h)))
      ∙ rows_next rs i d (omega arith) in
      subst (λ (l : List ℕ). Writing before after l (i + 1) m) bytes
      (record_next before buffer (nodes_bytes s th order (take i rs)) after n i m w h (length_first rs i (omega arith)) room e)

-- ---- padding

-- The records from `from` up to i are padding.
pub record Padding (before buffer : List ℕ) (from i last : ℕ) : Type 0 where
  pub since : from ≤ i
  pub upto : i ≤ last
  pub same : length buffer ≡ length before
  pub held : buffer ≡ sets before (16 * from) (pad_bytes (i - from))

pub padding_begins : (before : List ℕ) (from last : ℕ) → from ≤ last → Padding before before from from last
padding_begins before from last h =
    record { since = omega arith; upto = h; same = refl; held = ap (λ (k : ℕ). sets before (16 * from) (pad_bytes k)) (sym (sub_self from)) }

-- one record of padding more
pub pad_next : (before buffer after : List ℕ) (n : BvhNode) (from i last : ℕ) → Padding before buffer from i last → i < last → n ≡ pad_node
    → after ≡ sets buffer (16 * i) (node_bytes n)
    → Padding before after from (i + 1) last
pad_next before buffer after n from i last p h node e =
    let there : 16 * i ≡ 16 * from + 16 * (i - from) = omega (arith, p.since) in
    let one : i + 1 - from ≡ i - from + 1 = omega (arith, p.since) in
    let pads : pad_bytes (i - from) ++ node_bytes n ≡ pad_bytes (i + 1 - from) = rw (node, one) (sym (pad_more (i - from))) in
    record {
      since = omega (arith, p.since);
      upto = omega arith;
      same = ap length e ∙ length-sets buffer (16 * i) (node_bytes n) ∙ p.same;
      held =
          store_next before (pad_bytes (i - from)) (node_bytes n) (16 * from) (16 * (i - from)) (length_pad (i - from)) p.held (rw there at e)
          ∙ ap (sets before (16 * from)) pads;
    }
