-- `fold::fold_by_value` meets its contract: by the fold of the words where there is a NaN, else by the law that a number has one word.
use native.Mathlib.Omega.{arith}
use mathlib.Core.Path.{sym, ◌∙◌}
use Rattle.entries.proofs.TotalLaws.{none_nan, by_value}
use Rattle.entries.proofs.fold.fold_by_value.Goals as goal

pub has_nan-requires : goal.has_nan-requires
has_nan-requires c =
    let a = c.args in
    λ e. none_nan a.entries.now (c.requires.3.numbers e) a.places.now a.low a.high c.requires.1 c.requires.2

pub returns : goal.returns
returns c =
    let a = c.args in
    let none = sym c.has_nan.ensures ∙ c.if-has_nan.false in
    let words = c.shared_slice_known-1.given in
    let w = by_value a.entries.now (λ i. omega (arith, words i)) a.places.now a.low a.high c.requires.1 c.requires.2 none in
    let low = c.number_words.ensures ∙ w.0 in
    let high = c.number_words-2.ensures ∙ w.1 in
    λ i. record { min = low i; max = high i }
