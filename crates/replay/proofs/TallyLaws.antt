-- A text taken byte after byte: what is left of it, from where it was taken to, does what the whole does. Assumes nothing.
use Rattle.std.proofs.Common.{◌≡◌, ℕ, ◌+◌, ◌%◌, ◌^◌, ◌<◌, ◌≤◌, List, [], length, get_or, take, drop, set, sym, refl, ap, ◌∙◌, subst, ap₂, add-one, arith, length-take-le, take-suc-set, le-ltb, lt-ltb}
use lib.Seq.{drop-length}
use Rattle.base.proofs.StoreLaws.{rest_one}
use Rattle.replay.specs.Outcomes.{Judged}
use Rattle.replay.specs.Tallies.{State, state_of, grown, After, Fed, place_of, cases_after, misses_after, total_from}
use Rattle.replay.specs.declared.outcome.Outcome.{Outcome}
use Rattle.replay.specs.declared.outcome.Outcome.TheVariants.{Match, Mismatch, Bad}
use Rattle.replay.proofs.Numbering.{numbered}

-- Every outcome of a line is counted at one of 36 places.
pub place_within : (line : List ℕ) (o : Outcome) → Judged line o → place_of o < 36
place_within line (Match n) j = omega (arith, j.named, (numbered j.op).most)
place_within line (Mismatch n) j = omega (arith, j.named, (numbered j.op).most)
place_within line Bad j = omega arith

pub record Taking (text : List ℕ) (i : ℕ) (s₀ s : State) : Type 0 where
  pub whole : (t : State) → Fed (drop i text) s t → Fed text s₀ t

pub start : (text : List ℕ) (s : State) → Taking text 0 s s
start text s = record { whole = λ t f. f }

pub taken : (text : List ℕ) (i : ℕ) (s₀ s m : State) → i < length text → Taking text i s₀ s → After s (get_or text i 0) m → Taking text (i + 1) s₀ m
taken text i s₀ s m h k a =
    record {
      whole = λ t f. k.whole t (subst (λ (l : List ℕ). Fed l s t) (sym (rest_one text i h)) (record { mid = m; first = a; rest = f }));
    }

nothing_left : (text : List ℕ) (i : ℕ) → i ≤ length text → length text ≤ i → drop i text ≡ []
nothing_left text i h k =
    let all : i ≡ length text = omega arith in
    ap (λ (n : ℕ). drop n text) all ∙ drop-length text

pub ended : (text : List ℕ) (i : ℕ) (s₀ s : State) → i ≤ length text → length text ≤ i → Taking text i s₀ s → Fed text s₀ s
ended text i s₀ s h k taking = taking.whole s (subst (λ (l : List ℕ). Fed l s s) (sym (nothing_left text i h k)) refl)

pub line_ends : {l cs ms cs' ms' : List ℕ} {b : ℕ} (o : Outcome) → Judged l o → b ≡ 10 → cs' ≡ cases_after o cs → ms' ≡ misses_after o ms
    → After (state_of l cs ms) b (state_of [] cs' ms')
line_ends o j e p q =
    record {
      ends = λ _. record { outcome = o; judged = j; next = ap₂ (λ (c m : List ℕ). state_of [] c m) p q };
      grows = λ n. absurd (n e);
    }

pub line_grows : (line cs ms : List ℕ) (at b : ℕ) → (b ≡ 10 → ⊥) → at < 256 → length line ≡ 256
    → After (state_of (take at line) cs ms) b (state_of (take (at + 1) (set line at b)) cs ms)
line_grows line cs ms at b n h e =
    let long : length (take at line) ≡ at = length-take-le at line (omega arith) in
    let room = lt-ltb (length (take at line)) 256 (omega (arith, long)) in
    let more : take (at + 1) (set line at b) ≡ grown (take at line) b = rw (room, add-one) (take-suc-set line at b (omega arith)) in
    record { ends = λ t. absurd (n t); grows = λ _. ap (λ (l : List ℕ). state_of l cs ms) more }

pub line_full : (line cs ms : List ℕ) (at b : ℕ) → (b ≡ 10 → ⊥) → 256 ≤ at → at ≤ length line
    → After (state_of (take at line) cs ms) b (state_of (take at line) cs ms)
line_full line cs ms at b n h k =
    let long : length (take at line) ≡ at = length-take-le at line k in
    let full = le-ltb (length (take at line)) 256 (omega (arith, long)) in
    let same : take at line ≡ grown (take at line) b = rw full refl in
    record { ends = λ t. absurd (n t); grows = λ _. ap (λ (l : List ℕ). state_of l cs ms) same }

pub summed : (counts : List ℕ) (sum i : ℕ) {next t : ℕ} → i < length counts → next ≡ (sum + get_or counts i 0) % 2 ^ 64
    → total_from sum (drop i counts) ≡ t → total_from next (drop (i + 1) counts) ≡ t
summed counts sum i h e k =
    ap (λ (n : ℕ). total_from n (drop (i + 1) counts)) e ∙ sym (ap (total_from sum) (rest_one counts i h)) ∙ k

pub all_summed : (counts : List ℕ) (sum i : ℕ) {t : ℕ} → i ≤ length counts → length counts ≤ i → total_from sum (drop i counts) ≡ t → sum ≡ t
all_summed counts sum i h k e = ap (total_from sum) (sym (nothing_left counts i h k)) ∙ e
