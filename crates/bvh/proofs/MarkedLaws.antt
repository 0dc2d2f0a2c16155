-- The places of the present entries: those that the entries' words mark are those of the entries; they rise, and each is one of the list's.
use Rattle.std.specs.Prelude.{◌≡◌, ℕ, zero, suc, ◌+◌, ◌-◌, ◌*◌, ◌<◌, Bool, true, false, cond, List, [], ◌∷◌, ◌++◌, length, get_or, take, set}
use native.Mathlib.Omega.{arith}
use native.Mathlib.Numerals.{add-one}
use mathlib.Core.Path.{refl, sym, ap, ap₂, ◌∙◌}
use mathlib.Core.List.{append_assoc}
use lib.ListN.{length-append}
use lib.Seq.{get_or_at, take-set-le, take-suc-set}
use Rattle.base.specs.Lists.{one_if, Below, Rising}
use Rattle.bvh.specs.declared.items.BvhItem.{BvhItem}
use Rattle.bvh.specs.Items.{present, item_words, words_of, is_marked, marked}
use Rattle.base.proofs.NumberLaws.{below_wider, below_kept, rising_kept}

marked_onto : (at : ℕ) (before : List ℕ) (is : List BvhItem) (rest : List ℕ) → length before ≡ 7 * at
    → marked at (length is) (before ++ (words_of is ++ rest)) ≡ present at is
marked_onto at before [] rest e = refl
marked_onto at before (i ∷ is) rest e =
    let ws : List ℕ = before ++ (words_of (i ∷ is) ++ rest) in
    let mark : get_or ws (7 * at) 0 ≡ i.present = get_or_at before i.present _ 0 (7 * at) e in
    let moved : ws ≡ (before ++ item_words i) ++ (words_of is ++ rest) = sym (append_assoc before (item_words i) (words_of is ++ rest)) in
    let longer : length (before ++ item_words i) ≡ 7 * (at + 1) = omega (arith, length-append before (item_words i)) in
    let others : marked (at + 1) (length is) ws ≡ present (at + 1) is =
    ap (marked (at + 1) (length is)) moved ∙ marked_onto (at + 1) (before ++ item_words i) is rest longer in
    ap₂ (λ (b : Bool) (ps : List ℕ). cond b (at ∷ ps) ps) (ap is_marked mark) others

-- The marks in the entries' words are those of the entries.
pub marked_present : (is : List BvhItem) (rest : List ℕ) → marked 0 (length is) (words_of is ++ rest) ≡ present 0 is
marked_present is rest = marked_onto 0 [] is rest refl

-- A place that is stored and counted if it is marked.
pub kept_if : (b : Bool) (places rest : List ℕ) (k p : ℕ) → k < length places
    → take (k + one_if b) (set places k p) ++ rest ≡ take k places ++ cond b (p ∷ rest) rest
kept_if true places rest k p h =
    rw add-one (ap (λ (ps : List ℕ). ps ++ rest) (take-suc-set places k p h) ∙ append_assoc (take k places) (p ∷ []) rest)
kept_if false places rest k p h =
    let none : k + 0 ≡ k = omega arith in
    rw none (ap (λ (ps : List ℕ). ps ++ rest) (take-set-le k places k p (omega arith)))

pub marked_next : (ws : List ℕ) (p n : ℕ) → p < n
    → marked p (n - p) ws ≡ cond (is_marked (get_or ws (7 * p) 0)) (p ∷ marked (p + 1) (n - (p + 1)) ws) (marked (p + 1) (n - (p + 1)) ws)
marked_next ws p n h = let less : n - p ≡ suc (n - (p + 1)) = omega arith in ap (λ (k : ℕ). marked p k ws) less

pub marked_below : (at n : ℕ) (ws : List ℕ) → Below (at + n) (marked at n ws)
marked_below at zero ws = tt
marked_below at (suc n) ws =
    below_kept (is_marked (get_or ws (7 * at) 0)) (at + suc n) at (marked (at + 1) n ws) (omega arith)
    (below_wider (at + 1 + n) (at + suc n) (marked (at + 1) n ws) (omega arith) (marked_below (at + 1) n ws))

pub marked_rising : (at n : ℕ) (ws : List ℕ) → Rising at (marked at n ws)
marked_rising at zero ws = tt
marked_rising at (suc n) ws = rising_kept (is_marked (get_or ws (7 * at) 0)) at (marked (at + 1) n ws) (marked_rising (at + 1) n ws)
