-- `casts::cut_size` meets its contract: what it moves down is `moved`, which `CutSize` cuts at 2 ^ 31.
use mathlib.Core.Path.{ap, ◌∙◌}
use Prim.Native.Nat.{ℕ, ◌-◌, ◌*◌, ◌/◌, ◌^◌, min}
use Rattle.float32.proofs.CutSize.{digits, in_word, cut_is}
use Rattle.float32.proofs.casts.cut_size.Goals as goal

pub overflow_cast-digits-2 : goal.overflow_cast-digits-2
overflow_cast-digits-2 c = record { fits = in_word c.args.pattern c.min.result }

pub returns : goal.returns
returns c =
    let b = c.args.pattern in
    c.min-2.ensures
    ∙ ap (λ (k : ℕ). min (digits b * 256 / 2 ^ k) 0x8000_0000)
    (c.min.ensures ∙ ap (λ (x : ℕ). min (158 - x) 32) c.min-places.ensures)
    ∙ cut_is b
