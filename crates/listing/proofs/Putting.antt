-- What is put part after part is put as one.
use Rattle.std.specs.Prelude.{◌≡◌, ℕ, ◌+◌, ◌-◌, ◌≤◌, List, [], ◌++◌, length, take}
use native.Mathlib.Omega.{arith}
use mathlib.Core.Path.{refl, sym, ap, ◌∙◌}
use lib.ListN.{length-append}
use lib.Seq.{sets, length-sets}
use borrow.Rule.Slice.PartMut.{put_mid, Post-is}
use Rattle.base.proofs.StoreLaws.{store_next, stores_leave}
use Rattle.listing.specs.Text.{Put}

pub put_then : {m n : ℕ} {a b before mid after : List ℕ} {at end r : ℕ} → Put m a before at mid end → Put n b mid end after r
    → Put (m + n) (a ++ b) before at after r
put_then {m} {n} {a} {b} {before} {mid} {after} {at} {end} {r} p q =
    record {
      stored = store_next before a b at (length a) refl p.stored (q.stored ∙ ap (λ (k : ℕ). sets mid k b) p.ends);
      ends = omega (arith, p.ends, q.ends, length-append a b);
      few = omega (arith, p.few, q.few, length-append a b);
    }

-- Nothing is put.
pub put_none : (before : List ℕ) (at : ℕ) → Put 0 [] before at before at
put_none before at = record { stored = refl; ends = omega arith; few = omega arith }

-- the same text by another name, within another bound
pub put_as : {m n : ℕ} {a b before after : List ℕ} {at r : ℕ} → a ≡ b → m ≤ n → Put m a before at after r → Put n b before at after r
put_as {m} {n} {a} {b} {before} {after} {at} {r} e h p =
    record {
      stored = p.stored ∙ ap (sets before at) e;
      ends = p.ends ∙ ap (λ (l : List ℕ). at + length l) e;
      few = omega (arith, p.few, ap length e);
    }

pub put_length : {m : ℕ} {a before after : List ℕ} {at r : ℕ} → Put m a before at after r → length after ≡ length before
put_length {m} {a} {before} {after} {at} {r} p = ap length p.stored ∙ length-sets before at a

-- A copy into the part from `at` on puts the text there.
pub copied : (before text part : List ℕ) (at : ℕ) → at + length text ≤ length before → part ≡ text
    → Put (length text) text before at (put_mid at (at + length text - at) before part) (at + length text)
copied before text part at room same =
    record {
      stored =
          ap (put_mid at (at + length text - at) before) same
          ∙ ap (λ (l : List ℕ). take at before ++ (text ++ l)) (Post-is at (at + length text) before (omega arith))
          ∙ sym (stores_leave before text at (length text) refl room);
      ends = refl;
      few = omega arith;
    }
