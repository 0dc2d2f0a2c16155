-- Entries that are drawn: the words of one as one run of stores, and one more behind those that are written. Assumes nothing.
use Rattle.std.proofs.Common.{◌≡◌, ℕ, zero, suc, ◌+◌, ◌*◌, ◌≤◌, List, [], ◌∷◌, length, drop, set, sym, refl, ap, ◌∙◌, ap₂, add-one, arith, length-append, length-drop}
use lib.Seq.{sets}
use Rattle.base.specs.Lists.{over}
use Rattle.base.proofs.StoreLaws.{store_next, over_next}
use Rattle.math.specs.declared.aabb.Aabb.{Aabb}
use Rattle.math.specs.declared.words3.Words3.{Words3}
use Rattle.math.specs.Stored.{bits_of}
use Rattle.entries.specs.Boxes.{box_words}
use Rattle.entries.specs.declared.boxes.BoxWords.{BoxWords}
use Rattle.pairs.specs.declared.draw.Shape.{Shape}
use Rattle.pairs.specs.Drawing.{next_of, three_on, drawn_box, presence_of, entry_words, entries_on, drawn_entries}

abbrev between : Words3 → Words3 → BoxWords
between a b = record { min = a; max = b }

-- A mark and the box behind it are an entry's words.
pub entry_stored : (shape : Shape) (out : List ℕ) (at s : ℕ) {first p : ℕ} {b : Aabb} {lo hi : Words3} {after : List ℕ}
    → first ≡ next_of s → p ≡ presence_of first shape.absent → b ≡ drawn_box first shape → lo ≡ bits_of b.min → hi ≡ bits_of b.max
    → after ≡ sets (set out at p) (at + 1) (box_words (between lo hi)) → after ≡ sets out at (entry_words shape (next_of s))
unfolding entry_words
entry_stored shape out at s {first} {p} {b} {lo} {hi} f m e l h stored =
    let low = l ∙ ap (λ (a : Aabb). bits_of a.min) e in
    let high = h ∙ ap (λ (a : Aabb). bits_of a.max) e in
    let box_is = ap₂ (λ (x y : Words3). box_words (between x y)) low high in
    store_next out (p ∷ []) (box_words (between lo hi)) at 1 refl refl stored
    ∙ ap (sets out at) (ap₂ (λ (x : ℕ) (xs : List ℕ). x ∷ xs) m box_is ∙ ap (entry_words shape) f)

entry_long : (shape : Shape) (s : ℕ) → length (entry_words shape s) ≡ 7
unfolding entry_words
entry_long shape s = refl

entries_long : (shape : Shape) (n : ℕ) → length (drawn_entries shape n) ≡ 7 * n
entries_long shape zero = refl
entries_long shape (suc n) =
    let new = entry_words shape (next_of (entries_on shape.seed n)) in
    omega (arith, length-append (drawn_entries shape n) new, entries_long shape n, entry_long shape (next_of (entries_on shape.seed n)))

pub number_next : (seed n : ℕ) {s t : ℕ} → s ≡ entries_on seed n → t ≡ three_on (three_on (next_of s)) → t ≡ entries_on seed (n + 1)
number_next seed n e f = f ∙ ap (λ (k : ℕ). three_on (three_on (next_of k))) e ∙ sym (ap (entries_on seed) (add-one n))

-- One more entry behind the first n.
pub entry_next : (shape : Shape) (n : ℕ) (before : List ℕ) {s : ℕ} {entries after : List ℕ} → s ≡ entries_on shape.seed n
    → entries ≡ over (drawn_entries shape n) before → 7 * n + 7 ≤ length entries → after ≡ sets entries (7 * n) (entry_words shape (next_of s))
    → after ≡ over (drawn_entries shape (n + 1)) before
entry_next shape n before {s} {entries} e w room stored =
    let new = entry_words shape (next_of (entries_on shape.seed n)) in
    let long = entry_long shape (next_of (entries_on shape.seed n)) in
    let written = drawn_entries shape n in
    let here = entries_long shape n in
    let rest = drop (length written) before in
    stored
    ∙ ap₂ (λ (l : List ℕ) (k : ℕ). sets l (7 * n) (entry_words shape (next_of k))) w e
    ∙ over_next written new before (7 * n) here (omega (arith, ap length w, length-append written rest, length-drop (length written) before))
    ∙ sym (ap (λ (k : ℕ). over (drawn_entries shape k) before) (add-one n))
