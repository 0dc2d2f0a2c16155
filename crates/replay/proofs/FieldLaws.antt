-- A text of words, each after a space: field i is the nine bytes from 9 * i on. Assumes nothing.
use Rattle.std.proofs.Common.{◌≡◌, ℕ, zero, suc, ◌+◌, ◌*◌, ◌<◌, ◌≤◌, List, [], ◌∷◌, ◌++◌, length, get_or, take, drop, set, sym, refl, ap, ◌∙◌, ap₂, append_assoc, append-nil, add-one, arith, length-append, length-drop, length-take-le, get_or-drop, drop-cons, drop-drop, take-suc-set, take_at, take-add, drop_at}
use lib.Seq.{drop-nil, take-length}
use Rattle.io.specs.Digits.{last_digits}
use Rattle.replay.specs.Lines.{field, fields_of, Spells}
use Rattle.std.specs.Prelude.{Some, None}
use Rattle.replay.proofs.Spelling.{length_digits, spelt_in, none_in}

length_field : (w : ℕ) → length (field w) ≡ 9
unfolding field
length_field w = ap suc (length_digits 16 8 w)

-- a space, then the digits
space : (w : ℕ) (s : List ℕ) → get_or (field w ++ s) 0 0 ≡ 32
unfolding field
space w s = refl

tail : (w : ℕ) (s : List ℕ) → take 8 (drop 1 (field w ++ s)) ≡ last_digits 16 8 w
unfolding field
tail w s = take_at (last_digits 16 8 w) s 8 (length_digits 16 8 w)

is_field : (s : List ℕ) (w : ℕ) → get_or s 0 0 ≡ 32 → 9 ≤ length s → take 8 (drop 1 s) ≡ last_digits 16 8 w → take 9 s ≡ field w
unfolding field
is_field [] w e h d = absurd (omega arith)
is_field (c ∷ s) w e h d = ap₂ ◌∷◌ e d

-- one word more at the end
fields_snoc : (ws : List ℕ) (w : ℕ) → fields_of (ws ++ (w ∷ [])) ≡ fields_of ws ++ field w
fields_snoc [] w = append-nil (field w)
fields_snoc (v ∷ ws) w = ap (λ (s : List ℕ). field v ++ s) (fields_snoc ws w) ∙ sym (append_assoc (field v) (fields_of ws) (field w))

pub length_fields : (ws : List ℕ) → length (fields_of ws) ≡ 9 * length ws
length_fields [] = refl
length_fields (w ∷ ws) = omega (arith, length-append (field w) (fields_of ws), length_field w, length_fields ws)

-- the text from field i on
drop_fields : (i : ℕ) (ws : List ℕ) → drop (9 * i) (fields_of ws) ≡ fields_of (drop i ws)
drop_fields zero ws = refl
drop_fields (suc i) [] = drop-nil (9 * suc i)
drop_fields (suc i) (w ∷ ws) =
    let e : 9 * suc i ≡ 9 + 9 * i = omega arith in
    ap (λ (n : ℕ). drop n (field w ++ fields_of ws)) e
    ∙ sym (drop-drop (9 * i) 9 (field w ++ fields_of ws))
    ∙ ap (drop (9 * i)) (drop_at (field w) (fields_of ws) 9 (length_field w))
    ∙ drop_fields i ws

from_field : (i : ℕ) (ws : List ℕ) → i < length ws → drop (9 * i) (fields_of ws) ≡ field (get_or ws i 0) ++ fields_of (drop (suc i) ws)
from_field i ws h = drop_fields i ws ∙ ap fields_of (drop-cons ws i 0 h)

-- ---- the space and the digits of a field, in the text

pub space_at : (i : ℕ) (ws : List ℕ) → i < length ws → get_or (fields_of ws) (9 * i) 0 ≡ 32
space_at i ws h =
    let e : get_or (drop (9 * i) (fields_of ws)) 0 0 ≡ get_or (fields_of ws) (9 * i + 0) 0 = get_or-drop (9 * i) (fields_of ws) 0 0 in
    ap (λ (n : ℕ). get_or (fields_of ws) n 0) (omega arith)
    ∙ sym e
    ∙ ap (λ (s : List ℕ). get_or s 0 0) (from_field i ws h)
    ∙ space (get_or ws i 0) (fields_of (drop (suc i) ws))

pub digits_at : (i : ℕ) (ws : List ℕ) → i < length ws → take 8 (drop (9 * i + 1) (fields_of ws)) ≡ last_digits 16 8 (get_or ws i 0)
digits_at i ws h =
    ap (take 8) (sym (drop-drop 1 (9 * i) (fields_of ws)))
    ∙ ap (λ (s : List ℕ). take 8 (drop 1 s)) (from_field i ws h)
    ∙ tail (get_or ws i 0) (fields_of (drop (suc i) ws))

-- ---- reading field after field

-- The fields before i are those of the first i words.
abbrev pub Read : List ℕ → List ℕ → ℕ → Type 0
Read text words i = take (9 * i) text ≡ fields_of (take i words)

pub read_more : (text words : List ℕ) (i w : ℕ) → Read text words i → i < length words → 9 * i + 9 ≤ length text
    → get_or text (9 * i) 0 ≡ 32 → take 8 (drop (9 * i + 1) text) ≡ last_digits 16 8 w → Read text (set words i w) (i + 1)
read_more text words i w r h l s d =
    let at : ℕ = 9 * i in
    let e : 9 * (i + 1) ≡ at + 9 = omega arith in
    let nine : 9 ≤ length (drop at text) = simp length-drop (omega arith) in
    let first : get_or (drop at text) 0 0 ≡ 32 = get_or-drop at text 0 0 ∙ ap (λ (n : ℕ). get_or text n 0) (omega arith) ∙ s in
    let rest : take 8 (drop 1 (drop at text)) ≡ last_digits 16 8 w = ap (take 8) (drop-drop 1 at text) ∙ d in
    ap (λ (n : ℕ). take n text) e
    ∙ take-add at 9 text
    ∙ ap₂ ◌++◌ r (is_field (drop at text) w first nine rest)
    ∙ sym (fields_snoc (take i words) w)
    ∙ ap fields_of (sym (ap (λ (n : ℕ). take n (set words i w)) (add-one i) ∙ take-suc-set words i w h))

pub read_whole : (text words : List ℕ) (n : ℕ) → Read text words n → length text ≡ 9 * n → text ≡ fields_of (take n words)
read_whole text words n r e = sym (take-length text) ∙ ap (λ (k : ℕ). take k text) e ∙ r

-- ---- a part of k bytes, where k is 8

part_length : (text : List ℕ) (at k : ℕ) → k ≡ 8 → at + 8 ≤ length text → length (take k (drop at text)) ≡ 8
part_length text at k e h = length-take-le k (drop at text) (simp length-drop (omega arith)) ∙ e

pub part_digits : (text : List ℕ) (at k w : ℕ) → k ≡ 8 → at + 8 ≤ length text → Spells (take k (drop at text)) (Some w)
    → take 8 (drop at text) ≡ last_digits 16 8 w
part_digits text at k w e h s =
    ap (λ (m : ℕ). take m (drop at text)) (sym e) ∙ (spelt_in (take k (drop at text)) 8 w (part_length text at k e h) s).0

pub no_part : (text : List ℕ) (at k w : ℕ) → k ≡ 8 → at + 8 ≤ length text → Spells (take k (drop at text)) None → take 8 (drop at text) ≡ last_digits 16 8 w → ⊥
no_part text at k w e h s d =
    none_in (take k (drop at text)) 8 w (part_length text at k e h) s (ap (λ (m : ℕ). take m (drop at text)) e ∙ d)
