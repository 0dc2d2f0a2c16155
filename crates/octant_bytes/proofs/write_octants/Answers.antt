-- `write_octants`: a refusal is the checks' own; where they pass, the head and the lists are the octants' bytes.
use Rattle.std.proofs.Common.{rules}
use mathlib.Core.Path.{◌≡◌, refl, sym, ◌∙◌}
use Rattle.octant_bytes.proofs.Judging.{passed}
use Rattle.octant_bytes.proofs.Laying.{whole}
use native.Mathlib.Omega.{arith}
use Rattle.octant_bytes.proofs.write_octants.Goals as goal

pub overflow_add-address : goal.overflow_add-address
overflow_add-address c =
    let h = passed _ _ _ (sym c.judged.ensures ∙ c.in_ok-judged.was) in
    omega (arith, h.low)

pub put_head-requires : goal.put_head-requires
put_head-requires c =
    let h = passed _ _ _ (sym c.judged.ensures ∙ c.in_ok-judged.was) in
    (omega (arith, h.long), h.few, h.low)

pub put_lists-requires : goal.put_lists-requires
put_lists-requires c =
    let h = passed _ _ _ (sym c.judged.ensures ∙ c.in_ok-judged.was) in
    omega (arith, h.long, c.put_head.auto.out)

pub returns-in_err-judged : goal.returns-in_err-judged
returns-in_err-judged c =
    let e : c.from_residual.result ≡ c.judged.result = search rules in
    record { answer = e ∙ c.judged.ensures; bytes = rw (e, c.in_err-judged.was) refl }

pub returns : goal.returns
returns c =
    let h = passed _ _ _ (sym c.judged.ensures ∙ c.in_ok-judged.was) in
    record {
      answer = sym c.in_ok-judged.was ∙ c.judged.ensures;
      bytes = whole _ _ refl _ _ _ c.put_head.ensures c.put_lists.ensures h.long;
    }
