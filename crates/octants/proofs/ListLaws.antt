-- The loop over the octants: what stands in the parts that are done, followed by what the others had (`Listing`). By the lengths of the parts.
use mathlib.Core.Path.{◌≡◌, refl, sym, ap, ap₂, ◌∙◌, subst}
use mathlib.Core.List.{List, ◌++◌, append_assoc}
use Prim.Native.Nat.{ℕ, ◌+◌, ◌*◌, ◌≤◌, ◌<◌}
use native.Mathlib.Nat.{zero-mul, mul-le-mul_right}
use native.Mathlib.Omega.{arith}
use native.Mathlib.Numerals.{add-one}
use borrow.Rule.Slice.PartMut.{put_mid, same_len_mid}
use lib.ListN.{length, get_or, set, take, drop, length-append, length-drop}
use lib.Seq.{take_at, drop_at, drop-drop, length-take-le, get_or-set_same, get_or-set_other}
use Rattle.base.specs.Lists.{over}
use Rattle.shadows.specs.Octants.{octant_of}
use Rattle.shadows.proofs.Below.{Last, sooner, last, last_or}
use Rattle.far_order.specs.Rows.{Written}
use Rattle.octants.specs.declared.lists.OctantCounts.{OctantCounts}
use Rattle.octants.specs.Octants.{part_of, parts, counts_of, Wrote}
use Rattle.octants.specs.Steps.Parts.{Keyed}
use Rattle.octants.specs.Steps.Lists.{Each, counts_in}

-- ---- one part more

module _ (n : ℕ) (ws before now counts : List ℕ) (k : ℕ) (e : Each n ws before now counts k) (room : k * n + n ≤ length before) where
  abbrev done : List ℕ
  done = parts (λ o. octant_of o ws n) n k before

  -- the part that is lent is as it was
  pub part_is : take n (drop (k * n) now) ≡ part_of n k before
  part_is = ap (λ (l : List ℕ). take n (drop (k * n) l)) e.parts_are ∙ ap (take n) (drop_at done (drop (k * n) before) (k * n) e.parts_len)

  past_is : drop n (drop (k * n) now) ≡ drop ((k + 1) * n) before
  past_is =
      let s : k * n + n ≡ (k + 1) * n = omega arith in
      ap (λ (l : List ℕ). drop n (drop (k * n) l)) e.parts_are
      ∙ ap (drop n) (drop_at done (drop (k * n) before) (k * n) e.parts_len)
      ∙ drop-drop n (k * n) before
      ∙ ap (λ (i : ℕ). drop i before) s

  pub each_more : (part : List ℕ) (r v : ℕ) → length part ≡ n → k < length counts → v ≡ r
      → Written (octant_of k ws n) (take n (drop (k * n) now)) part r → Each n ws before (put_mid (k * n) n now part) (set counts k v) (k + 1)
  each_more part r v len some f w =
      let grown : parts (λ o. octant_of o ws n) n (k + 1) before ≡ done ++ part =
      ap (λ (m : ℕ). parts (λ o. octant_of o ws n) n m before) (add-one k)
      ∙ ap (λ (l : List ℕ). done ++ l) (sym (w.list ∙ ap (over (octant_of k ws n)) part_is)) in
      let front : take (k * n) now ≡ done = ap (take (k * n)) e.parts_are ∙ take_at done (drop (k * n) before) (k * n) e.parts_len in
      record {
        parts_are =
            ap₂ (λ (a b : List ℕ). a ++ (part ++ b)) front past_is
            ∙ sym (append_assoc done part (drop ((k + 1) * n) before))
            ∙ ap (λ (l : List ℕ). l ++ drop ((k + 1) * n) before) (sym grown);
        parts_len = ap length grown ∙ omega (arith, length-append done part, e.parts_len);
        counts_are = λ o l. go o (last_or k o (omega arith));
      }
    where
      go : (o : ℕ) → Last k o → get_or (set counts k v) o 0 ≡ length (octant_of o ws n)
      go o (sooner l) = get_or-set_other counts k o v 0 (λ h. omega arith) ∙ e.counts_are o l
      go o (last h) =
          ap (λ (i : ℕ). get_or (set counts k v) i 0) h
          ∙ get_or-set_same counts k v 0 some
          ∙ f
          ∙ w.count
          ∙ ap (λ (i : ℕ). length (octant_of i ws n)) (sym h)

-- ---- the loop

-- the first k octants are done
pub record Listing (n : ℕ) (keys before now counts : List ℕ) (k : ℕ) : Type 0 where
  pub len : length now ≡ length before
  pub done : (ws : List ℕ) → Keyed n ws keys → Each n ws before now counts k

pub none_listed : (n : ℕ) (keys before counts : List ℕ) → Listing n keys before before counts 0
none_listed n keys before counts =
    record {
      len = refl;
      done = λ ws h. record { parts_are = ap (λ (i : ℕ). drop i before) (sym (zero-mul n)); parts_len = omega arith; counts_are = λ o l. absurd (omega arith) };
    }

-- k lists of n words, and one more, of eight
pub in_range : (n k size : ℕ) → k < 8 → 8 * n ≤ size → k * n + n ≤ size
in_range n k size l h = let m : (k + 1) * n ≤ 8 * n = mul-le-mul_right n l' in omega (arith, m)
  where
    l' : k + 1 ≤ 8
    l' = omega arith

pub one_listed : (n : ℕ) (keys before now counts : List ℕ) (k m : ℕ) (part : List ℕ) (r v : ℕ) → Listing n keys before now counts k
    → m ≡ n → k * n + n ≤ length before → k < 8 → 8 ≤ length counts → length part ≡ length (take m (drop (k * n) now)) → v ≡ r
    → ((ws : List ℕ) → Keyed n ws keys → Written (octant_of k ws n) (take m (drop (k * n) now)) part r)
    → Listing n keys before (put_mid (k * n) m now part) (set counts k v) (k + 1)
one_listed n keys before now counts k m part r v g same room l some len f w =
    record {
      len = same_len_mid (k * n) m now part len ∙ g.len;
      done =
          λ ws h.
          subst (λ (j : ℕ). Each n ws before (put_mid (k * n) j now part) (set counts k v) (k + 1)) (sym same)
          (each_more n ws before now counts k (g.done ws h) room part r v full (omega arith) f
          (subst (λ (j : ℕ). Written (octant_of k ws n) (take j (drop (k * n) now)) part r) same (w ws h)));
    }
  where
    full : length part ≡ n
    full = len ∙ length-take-le m (drop (k * n) now) (omega (arith, length-drop (k * n) now, g.len)) ∙ same

-- a list that was written in its part has no more than the part
pub written_few : (xs before after : List ℕ) (r : ℕ) → Written xs before after r → length after ≡ length before → r ≤ length before
written_few xs before after r w e =
    omega (arith, w.count, ap length w.list, e, length-append xs (drop (length xs) before), length-drop (length xs) before)

-- ---- all eight

counts_alike : (n : ℕ) (ws before now counts : List ℕ) → Each n ws before now counts 8 → counts_in counts ≡ counts_of (λ o. octant_of o ws n)
unfolding counts_in counts_of
counts_alike n ws before now counts e =
    λ i.
    record {
      c0 = e.counts_are 0 (omega arith) i;
      c1 = e.counts_are 1 (omega arith) i;
      c2 = e.counts_are 2 (omega arith) i;
      c3 = e.counts_are 3 (omega arith) i;
      c4 = e.counts_are 4 (omega arith) i;
      c5 = e.counts_are 5 (omega arith) i;
      c6 = e.counts_are 6 (omega arith) i;
      c7 = e.counts_are 7 (omega arith) i;
    }

pub wrote : (n : ℕ) (ws before now counts : List ℕ) (r : OctantCounts) → Each n ws before now counts 8 → r ≡ counts_in counts → Wrote n ws before now r
wrote n ws before now counts r e f = record { counts = f ∙ counts_alike n ws before now counts e; lists_are = e.parts_are }
