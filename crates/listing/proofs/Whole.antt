-- The text of an input by its three cases, and that a text which is put at 0 is the whole of what is said.
use Rattle.std.specs.Prelude.{◌≡◌, ℕ, ◌%◌, ◌<◌, ◌≤◌, List, length}
use native.Mathlib.Omega.{arith}
use mathlib.Core.Path.{sym, ap, ◌∙◌}
use lib.Seq.{length-sets, length-take-le}
use borrow.Author.Tests.{lt-ltb, le-ltb, eq-eqb, ne_eqb}
use Rattle.base.specs.Lists.{over}
use Rattle.base.proofs.StoreLaws.{sets_over}
use Rattle.listing.specs.Lines.{refused_line}
use Rattle.listing.specs.Listing.{children_of, listing_of, boxes_text, Listed}
use Rattle.listing.specs.Text.{Put}

pub over_limit : (input : List ℕ) → 8192 < length input → refused_line 1 ≡ boxes_text input
unfolding boxes_text
over_limit input h = rw (lt-ltb 8192 (length input) h)

pub ragged : (input : List ℕ) → length input ≤ 8192 → ¬ (length input % 32 ≡ 0) → refused_line 13 ≡ boxes_text input
unfolding boxes_text
ragged input h k = rw (le-ltb 8192 (length input) h, ne_eqb (length input % 32) 0 k)

pub served : (input : List ℕ) → length input ≤ 8192 → length input % 32 ≡ 0 → listing_of (children_of input) ≡ boxes_text input
unfolding boxes_text
served input h k = rw (le-ltb 8192 (length input) h, eq-eqb (length input % 32) 0 k)

pub whole_text : {input text before after : List ℕ} {m r : ℕ} → text ≡ boxes_text input → m ≤ length before
    → Put m text before 0 after r → Listed input before after r
whole_text {input} {text} {before} {after} {m} {r} e room p =
    let ends : r ≡ length text = omega (arith, p.ends) in
    let same : length after ≡ length before = ap length p.stored ∙ length-sets before 0 text in
    let inside : r ≤ length after = omega (arith, p.few) in
    record {
      text = p.stored ∙ sets_over text before (omega (arith, p.few)) ∙ ap (λ (t : List ℕ). over t before) e;
      count = ends ∙ ap length e;
      inside = (inside, sym (length-take-le r after inside));
    }
