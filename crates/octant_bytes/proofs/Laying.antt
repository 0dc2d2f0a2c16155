-- Lists stored one after the other are one run of stores, and so are the lengths and the pointers. By induction on the lists.
use Prim.Native.Nat.{ℕ, ◌+◌, ◌*◌, ◌≤◌, ◌<◌}
use native.Mathlib.Omega.{arith}
use native.Mathlib.Numerals.{add-one}
use mathlib.Core.Path.{◌≡◌, refl, sym, ap, ◌∙◌}
use mathlib.Core.List.{List, [], ◌∷◌, ◌++◌, append_assoc, append-nil}
use lib.ListN.{length, get_or, take, replicate, length-append}
use lib.Seq.{sets, length-sets, length-take-le, take-suc, take-length}
use Rattle.base.specs.Lists.{over}
use Rattle.base.specs.LittleEndian.{little_endian}
use Rattle.base.proofs.LittleEndian.{number_bytes, zero_bytes, zeros_stored}
use Rattle.base.proofs.StoreLaws.{store_next, four_stores, sets_over}
use Rattle.octant_bytes.specs.Bytes.{lengths_of, all_of, counts_bytes, pointers_bytes, list_bytes, lists_bytes, octant_bytes}
use Rattle.octant_bytes.specs.Steps.Counts.{four_bytes, ListPut}

-- ---- the lengths and the pointers

sixteen : (a b c d : ℕ) → length (four_bytes 4 a b c d) ≡ 16
unfolding four_bytes little_endian
sixteen a b c d = refl

thirty_two : (a b c d e f g h : ℕ) → length (four_bytes 4 a b c d ++ four_bytes 4 e f g h) ≡ 32
unfolding four_bytes little_endian
thirty_two a b c d e f g h = refl

module _ (c0 c1 c2 c3 c4 c5 c6 c7 p p1 p2 p3 p4 p5 p6 p7 : ℕ) where
  sixty_four : length (four_bytes 4 c0 c1 c2 c3 ++ four_bytes 4 c4 c5 c6 c7 ++ four_bytes 8 p p1 p2 p3) ≡ 64
  unfolding four_bytes little_endian
  sixty_four = refl

  abbrev counts : List ℕ
  counts = c0 ∷ c1 ∷ c2 ∷ c3 ∷ c4 ∷ c5 ∷ c6 ∷ c7 ∷ []

  same_bytes : p1 ≡ p + 4 * c0 → p2 ≡ p1 + 4 * c1 → p3 ≡ p2 + 4 * c2 → p4 ≡ p3 + 4 * c3 → p5 ≡ p4 + 4 * c4 → p6 ≡ p5 + 4 * c5 → p7 ≡ p6 + 4 * c6
      → four_bytes 4 c0 c1 c2 c3 ++ four_bytes 4 c4 c5 c6 c7 ++ four_bytes 8 p p1 p2 p3 ++ four_bytes 8 p4 p5 p6 p7
      ≡ counts_bytes counts ++ pointers_bytes p counts
  unfolding four_bytes little_endian
  same_bytes e1 e2 e3 e4 e5 e6 e7 = rw (e7, e6, e5, e4, e3, e2, e1)

  pub head_stored : (out : List ℕ) {a b c d : List ℕ} → a ≡ sets out 0 (four_bytes 4 c0 c1 c2 c3) → b ≡ sets a 16 (four_bytes 4 c4 c5 c6 c7)
      → c ≡ sets b 32 (four_bytes 8 p p1 p2 p3) → d ≡ sets c 64 (four_bytes 8 p4 p5 p6 p7)
      → p1 ≡ p + 4 * c0 → p2 ≡ p1 + 4 * c1 → p3 ≡ p2 + 4 * c2 → p4 ≡ p3 + 4 * c3 → p5 ≡ p4 + 4 * c4 → p6 ≡ p5 + 4 * c5 → p7 ≡ p6 + 4 * c6
      → d ≡ sets out 0 (counts_bytes counts ++ pointers_bytes p counts)
  head_stored out ea eb ec ed e1 e2 e3 e4 e5 e6 e7 =
      four_stores out (four_bytes 4 c0 c1 c2 c3) (four_bytes 4 c4 c5 c6 c7) (four_bytes 8 p p1 p2 p3) (four_bytes 8 p4 p5 p6 p7) 0 16 32 64
      (sixteen c0 c1 c2 c3) (thirty_two c0 c1 c2 c3 c4 c5 c6 c7) sixty_four ea eb ec ed
      ∙ ap (sets out 0) (same_bytes e1 e2 e3 e4 e5 e6 e7)

-- ---- one list

pub length_list : (is : List ℕ) → length (list_bytes is) ≡ 4 * length is
length_list [] = refl
length_list (i ∷ is) = omega (arith, length-append (little_endian 4 i) (list_bytes is), (number_bytes 4 i).size, length_list is)

list_more : (is : List ℕ) (i : ℕ) → list_bytes (is ++ (i ∷ [])) ≡ list_bytes is ++ little_endian 4 i
list_more [] i = append-nil (little_endian 4 i)
list_more (k ∷ is) i =
    ap (λ (l : List ℕ). little_endian 4 k ++ l) (list_more is i) ∙ sym (append_assoc (little_endian 4 k) (list_bytes is) (little_endian 4 i))

-- The loop of `put_list`: the indices before i are stored.
pub record Putting (list before now : List ℕ) (at i : ℕ) : Type 0 where
  pub len : length now ≡ length before
  pub put : now ≡ sets before at (list_bytes (take i list))

pub start : (list out : List ℕ) (at : ℕ) → Putting list out out at 0
start list out at = record { len = refl; put = refl }

pub one_more : (list before now after : List ℕ) (at i : ℕ) → Putting list before now at i → i < length list
    → after ≡ sets now (at + 4 * i) (little_endian 4 (get_or list i 0)) → Putting list before after at (i + 1)
one_more list before now after at i g h a =
    let x : ℕ = get_or list i 0 in
    let full : length (list_bytes (take i list)) ≡ 4 * i =
    length_list (take i list) ∙ ap (λ (k : ℕ). 4 * k) (length-take-le i list (omega arith)) in
    let next : take (i + 1) list ≡ take i list ++ (x ∷ []) = ap (λ (k : ℕ). take k list) (add-one i) ∙ take-suc list i 0 h in
    record {
      len = ap length a ∙ length-sets now (at + 4 * i) (little_endian 4 x) ∙ g.len;
      put =
          store_next before (list_bytes (take i list)) (little_endian 4 x) at (4 * i) full g.put a
          ∙ ap (sets before at) (sym (ap list_bytes next ∙ list_more (take i list) x));
    }

pub all_put : (list before now : List ℕ) (at i : ℕ) → Putting list before now at i → i ≡ length list
    → ListPut list before now at (at + 4 * length list)
all_put list before now at i g e =
    record { bytes = g.put ∙ ap (λ (l : List ℕ). sets before at (list_bytes l)) (ap (λ (k : ℕ). take k list) e ∙ take-length list); behind = refl }

-- ---- the lists

length_lists : (ls : List (List ℕ)) → length (lists_bytes ls) ≡ 4 * all_of (lengths_of ls)
length_lists [] = refl
length_lists (l ∷ ls) = omega (arith, length-append (list_bytes l) (lists_bytes ls), length_list l, length_lists ls)

lists_more : (ls : List (List ℕ)) (l : List ℕ) → lists_bytes (ls ++ (l ∷ [])) ≡ lists_bytes ls ++ list_bytes l
lists_more [] l = append-nil (list_bytes l)
lists_more (k ∷ ls) l = ap (λ (r : List ℕ). list_bytes k ++ r) (lists_more ls l) ∙ sym (append_assoc (list_bytes k) (lists_bytes ls) (list_bytes l))

all_more : (ls : List (List ℕ)) (l : List ℕ) → all_of (lengths_of (ls ++ (l ∷ []))) ≡ all_of (lengths_of ls) + length l
all_more [] l = omega arith
all_more (k ∷ ls) l = omega (arith, all_more ls l)

all_front : (ls rest : List (List ℕ)) (l : List ℕ) → all_of (lengths_of ls) + length l ≤ all_of (lengths_of (ls ++ (l ∷ rest)))
all_front [] rest l = omega arith
all_front (k ∷ ls) rest l = omega (arith, all_front ls rest l)

-- These lists are stored from byte 96 on, and `at` is the place behind them.
pub record Put (ls : List (List ℕ)) (before now : List ℕ) (at : ℕ) : Type 0 where
  pub bytes : now ≡ sets before 96 (lists_bytes ls)
  pub place : at ≡ 96 + 4 * all_of (lengths_of ls)

pub none_put : (out : List ℕ) → Put [] out out 96
none_put out = record { bytes = refl; place = refl }

pub next_put : (ls : List (List ℕ)) (l before now after : List ℕ) (at r : ℕ) → Put ls before now at → ListPut l now after at r
    → Put (ls ++ (l ∷ [])) before after r
next_put ls l before now after at r p q =
    let there : after ≡ sets now (96 + 4 * all_of (lengths_of ls)) (list_bytes l) =
    q.bytes ∙ ap (λ (k : ℕ). sets now k (list_bytes l)) p.place in
    record {
      bytes =
          store_next before (lists_bytes ls) (list_bytes l) 96 (4 * all_of (lengths_of ls)) (length_lists ls) p.bytes there
          ∙ ap (sets before 96) (sym (lists_more ls l));
      place = omega (arith, p.place, q.behind, all_more ls l);
    }

-- The first lists, one after the other: each lemma takes what the stores so far promise.
module _ {out l0 o1 : List ℕ} {a1 : ℕ} (e1 : ListPut l0 out o1 96 a1) where
  pub put1 : Put (l0 ∷ []) out o1 a1
  put1 = next_put _ _ _ _ _ _ _ (none_put out) e1

  module _ {l1 o2 : List ℕ} {a2 : ℕ} (e2 : ListPut l1 o1 o2 a1 a2) where
    pub put2 : Put (l0 ∷ l1 ∷ []) out o2 a2
    put2 = next_put _ _ _ _ _ _ _ put1 e2

    module _ {l2 o3 : List ℕ} {a3 : ℕ} (e3 : ListPut l2 o2 o3 a2 a3) where
      pub put3 : Put (l0 ∷ l1 ∷ l2 ∷ []) out o3 a3
      put3 = next_put _ _ _ _ _ _ _ put2 e3

      module _ {l3 o4 : List ℕ} {a4 : ℕ} (e4 : ListPut l3 o3 o4 a3 a4) where
        pub put4 : Put (l0 ∷ l1 ∷ l2 ∷ l3 ∷ []) out o4 a4
        put4 = next_put _ _ _ _ _ _ _ put3 e4

        module _ {l4 o5 : List ℕ} {a5 : ℕ} (e5 : ListPut l4 o4 o5 a4 a5) where
          pub put5 : Put (l0 ∷ l1 ∷ l2 ∷ l3 ∷ l4 ∷ []) out o5 a5
          put5 = next_put _ _ _ _ _ _ _ put4 e5

          module _ {l5 o6 : List ℕ} {a6 : ℕ} (e6 : ListPut l5 o5 o6 a5 a6) where
            pub put6 : Put (l0 ∷ l1 ∷ l2 ∷ l3 ∷ l4 ∷ l5 ∷ []) out o6 a6
            put6 = next_put _ _ _ _ _ _ _ put5 e6

            module _ {l6 o7 : List ℕ} {a7 : ℕ} (e7 : ListPut l6 o6 o7 a6 a7) where
              pub put7 : Put (l0 ∷ l1 ∷ l2 ∷ l3 ∷ l4 ∷ l5 ∷ l6 ∷ []) out o7 a7
              put7 = next_put _ _ _ _ _ _ _ put6 e7

              module _ {l7 o8 : List ℕ} {a8 : ℕ} (e8 : ListPut l7 o7 o8 a7 a8) where
                pub put8 : Put (l0 ∷ l1 ∷ l2 ∷ l3 ∷ l4 ∷ l5 ∷ l6 ∷ l7 ∷ []) out o8 a8
                put8 = next_put _ _ _ _ _ _ _ put7 e8

long : (ls : List (List ℕ)) (before now : List ℕ) (at : ℕ) → Put ls before now at → length now ≡ length before
long ls before now at p = ap length p.bytes ∙ length-sets before 96 (lists_bytes ls)

-- the next list has room
pub fits : (ls rest : List (List ℕ)) (l before now : List ℕ) (at : ℕ) → Put ls before now at
    → 128 + 4 * all_of (lengths_of (ls ++ (l ∷ rest))) ≤ length before → at + 4 * length l ≤ length now
fits ls rest l before now at p room = omega (arith, p.place, long ls before now at p, all_front ls rest l)

-- and behind the last the zeros
pub zeros_fit : (ls : List (List ℕ)) (before now : List ℕ) (at : ℕ) → Put ls before now at → 128 + 4 * all_of (lengths_of ls) ≤ length before
    → at + 32 ≤ length now
zeros_fit ls before now at p room = omega (arith, p.place, long ls before now at p)

pub zeros_put : (ls : List (List ℕ)) (before now after : List ℕ) (at : ℕ) → Put ls before now at → after ≡ sets now at (little_endian 32 0)
    → after ≡ sets before 96 (lists_bytes ls ++ replicate 32 0)
zeros_put ls before now after at p e =
    store_next before (lists_bytes ls) (replicate 32 0) 96 (4 * all_of (lengths_of ls)) (length_lists ls) p.bytes
    (zeros_stored now at 32 e ∙ ap (λ (k : ℕ). sets now k (replicate 32 0)) p.place)

pub same_long : (ls : List (List ℕ)) (before after : List ℕ) → after ≡ sets before 96 (lists_bytes ls ++ replicate 32 0) → length after ≡ length before
same_long ls before after e = ap length e ∙ length-sets before 96 (lists_bytes ls ++ replicate 32 0)

-- ---- the whole

length_counts : (ns : List ℕ) → length (counts_bytes ns) ≡ 4 * length ns
length_counts [] = refl
length_counts (n ∷ ns) = omega (arith, length-append (little_endian 4 n) (counts_bytes ns), (number_bytes 4 n).size, length_counts ns)

length_pointers : (p : ℕ) (ns : List ℕ) → length (pointers_bytes p ns) ≡ 8 * length ns
length_pointers p [] = refl
length_pointers p (n ∷ ns) =
    omega (arith, length-append (little_endian 8 p) (pointers_bytes (p + 4 * n) ns), (number_bytes 8 p).size, length_pointers (p + 4 * n) ns)

module _ (address : ℕ) (ls : List (List ℕ)) (eight : length (lengths_of ls) ≡ 8) where
  abbrev head : List ℕ
  head = counts_bytes (lengths_of ls) ++ pointers_bytes (address + 96) (lengths_of ls)

  head_is : length head ≡ 96
  head_is =
      omega (
        arith,
        length-append (counts_bytes (lengths_of ls)) (pointers_bytes (address + 96) (lengths_of ls)),
        length_counts (lengths_of ls),
        length_pointers (address + 96) (lengths_of ls),
        eight,
      )

  pub length_octants : length (octant_bytes address ls) ≡ 128 + 4 * all_of (lengths_of ls)
  unfolding octant_bytes
  length_octants =
      omega (
        arith,
        length-append (head ++ lists_bytes ls) (replicate 32 0),
        length-append head (lists_bytes ls),
        head_is,
        length_lists ls,
        (zero_bytes 32).size,
      )

  pub whole : (before now after : List ℕ) → now ≡ sets before 0 head → after ≡ sets now 96 (lists_bytes ls ++ replicate 32 0)
      → 128 + 4 * all_of (lengths_of ls) ≤ length before → after ≡ over (octant_bytes address ls) before
  unfolding octant_bytes
  whole before now after e f room =
      store_next before head (lists_bytes ls ++ replicate 32 0) 0 96 head_is e f
      ∙ ap (sets before 0) (sym (append_assoc head (lists_bytes ls) (replicate 32 0)))
      ∙ sets_over (octant_bytes address ls) before (omega (arith, length_octants))
