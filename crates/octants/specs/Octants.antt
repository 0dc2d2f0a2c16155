-- What `calculate_octants` answers, and what the lists then hold. Definitions only.
use Rattle.std.specs.Prelude.{ℕ, zero, suc, ◌+◌, ◌*◌, Bool, cond, ◌||◌, List, [], ◌++◌, ◌≡◌, ltb, length, take, drop, Result, Ok, Err}
use Rattle.base.specs.Lists.{over}
use Rattle.shadows.specs.Octants.{octant_of}
use Rattle.octants.specs.declared.lists.OctantCounts.{OctantCounts}
use Rattle.octants.specs.declared.entry.OctantsRefusal.{OctantsRefusal}
use Rattle.octants.specs.declared.entry.OctantsRefusal.TheVariants.{TooManyVertices, BufferTooShort}
use Rattle.octants.specs.declared.entry.Lengths.{Lengths}

-- ---- the lists

-- the words of part k: list k stands from word k * n on
abbrev pub part_of : ℕ → ℕ → List ℕ → List ℕ
part_of n k l = take n (drop (k * n) l)

-- m parts, each with its list, and then the words as they were
abbrev pub parts : (ℕ → List ℕ) → ℕ → ℕ → List ℕ → List ℕ
parts list n zero before = []
parts list n (suc m) before = parts list n m before ++ over (list m) (part_of n m before)

-- Rule O2: the octants' lists over n vertices, in eight parts; what is past them stays.
abbrev pub listed : ℕ → List ℕ → List ℕ → List ℕ
listed n ws before = parts (λ o. octant_of o ws n) n 8 before ++ drop (8 * n) before

-- how many each list has
unfoldable pub counts_of : (ℕ → List ℕ) → OctantCounts
counts_of list =
    record {
      c0 = length (list 0);
      c1 = length (list 1);
      c2 = length (list 2);
      c3 = length (list 3);
      c4 = length (list 4);
      c5 = length (list 5);
      c6 = length (list 6);
      c7 = length (list 7);
    }

-- ---- the answer

-- words to work in: for keys, for rows, and to order, to sort and to mark; all of them
abbrev pub key_words : ℕ → ℕ
key_words n = 3 * n

abbrev pub row_words : ℕ → ℕ
row_words n = 4 * n

abbrev pub work_words : ℕ → ℕ
work_words n = key_words n + row_words n + n + n + n

-- Rule O3 (01, octants, 2): three words a vertex, a word a vertex for each of eight lists, and the words to work in
abbrev pub short : ℕ → Lengths → Bool
short n l =
    ltb l.vertices (3 * n) || ltb l.lists (8 * n) || ltb l.keys (key_words n) || ltb l.rows (row_words n)
    || ltb l.order n || ltb l.temp n || ltb l.marks n

-- Rule O3 (01, octants): the checks in the order written.
unfoldable pub answer_of : ℕ → Lengths → List ℕ → Result OctantCounts OctantsRefusal
answer_of n l ws =
    cond (ltb 32768 n) (Err TooManyVertices)
    (cond (short n l) (Err BufferTooShort)
    (Ok (counts_of (λ o. octant_of o ws n))))

-- 01's number for each answer, 0 where it is not refused
abbrev pub refusal_number : OctantsRefusal → ℕ
refusal_number TooManyVertices = 1
refusal_number BufferTooShort = 2

abbrev pub number_of : Result OctantCounts OctantsRefusal → ℕ
number_of (Ok counts) = 0
number_of (Err r) = refusal_number r

-- what the lists hold at the end: on a refusal what they held
abbrev pub kept : Result OctantCounts OctantsRefusal → List ℕ → List ℕ → List ℕ
kept (Ok counts) after before = after
kept (Err r) after before = before

-- The answer, and every word of the lists.
pub record Answered (n : ℕ) (l : Lengths) (ws before after : List ℕ) (r : Result OctantCounts OctantsRefusal) : Type 0 where
  pub answer : r ≡ answer_of n l ws
  pub lists_are : after ≡ kept r (listed n ws before) before

-- What the work below the entry leaves.
pub record Wrote (n : ℕ) (ws before after : List ℕ) (r : OctantCounts) : Type 0 where
  pub counts : r ≡ counts_of (λ o. octant_of o ws n)
  pub lists_are : after ≡ listed n ws before
