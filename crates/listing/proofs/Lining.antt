-- Lines are put one after the other, and a field's number is what the machine reads of it.
use Rattle.std.specs.Prelude.{◌≡◌, ℕ, ◌+◌, ◌*◌, ◌^◌, ◌<◌, ◌≤◌, List, length, ℤ}
use native.Mathlib.Omega.{arith}
use native.Mathlib.Numerals.{add-one}
use mathlib.Core.Path.{refl, sym, ap, ap₂, ◌∙◌}
use lib.Signed.{mag}
use mir.Syntax.{w16}
use mir.Val.{to_z, of_z}
use Rattle.base.proofs.ShortLaws.{same_short}
use Rattle.records.specs.declared.BoundVertex.{BoundVertex}
use Rattle.listing.specs.Lines.{lines, record_line}
use Rattle.listing.specs.Text.{Put, field}
use Rattle.listing.proofs.Putting.{put_as, put_then, put_none, put_length}

pub field_put : {m : ℕ} {before after : List ℕ} {at r : ℕ} (v : ℤ) → mag v < 2 ^ 15
    → Put m (field (to_z w16 (of_z w16 v))) before at after r → Put m (field v) before at after r
field_put v h p = put_as (ap field (same_short v h)) (omega arith) p

pub record_put : {m : ℕ} {before after : List ℕ} {at r : ℕ} (word : List ℕ) (number : ℕ) (min max : BoundVertex) (one two : ℤ)
    → mag one < 2 ^ 15 → mag two < 2 ^ 15
    → Put m (record_line word number min max (to_z w16 (of_z w16 one)) (to_z w16 (of_z w16 two))) before at after r
    → Put m (record_line word number min max one two) before at after r
record_put word number min max one two h k p = put_as (ap₂ (record_line word number min max) (same_short one h) (same_short two k)) (omega arith) p

-- The first i of `count` lines are put from `at` on, and end at `end`.
pub record Lined (line : ℕ → List ℕ) (before after : List ℕ) (at end i count : ℕ) : Type 0 where
  pub upto : i ≤ count
  pub same : length after ≡ length before
  pub put : Put (67 * i) (lines line i) before at after end

pub no_line : (line : ℕ → List ℕ) (before : List ℕ) (at count : ℕ) → Lined line before before at at 0 count
no_line line before at count = record { upto = omega arith; same = refl; put = put_none before at }

pub line_next : (line : ℕ → List ℕ) {before mid after : List ℕ} {at end r i count : ℕ} → Lined line before mid at end i count → i < count
    → Put 67 (line i) mid end after r → Lined line before after at r (i + 1) count
line_next line {before} {mid} {after} {at} {end} {r} {i} {count} l h p =
    record {
      upto = omega arith;
      same = put_length p ∙ l.same;
      put = put_as (sym (ap (lines line) (add-one i))) (omega arith) (put_then l.put p);
    }

-- There is room for another line.
pub line_room : (line : ℕ → List ℕ) {before mid : List ℕ} {at end i count : ℕ} → Lined line before mid at end i count → i < count
    → at + 67 * count ≤ length before → end + 67 ≤ length mid
line_room line l h room = omega (arith, l.same, l.put.ends, l.put.few)

pub all_lines : (line : ℕ → List ℕ) {before after : List ℕ} {at end i count : ℕ} → Lined line before after at end i count → count ≤ i
    → Put (67 * count) (lines line count) before at after end
all_lines line {before} {after} {at} {end} {i} {count} l h =
    let e : i ≡ count = omega (arith, l.upto) in
    put_as (ap (lines line) e) (omega arith) l.put
