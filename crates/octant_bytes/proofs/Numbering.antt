-- An answer by its number promises what the answer does.
use Prim.Native.Nat.{ℕ}
use mathlib.Core.List.{List}
use mathlib.Core.Path.{◌≡◌, ap, ◌∙◌}
use Rattle.octant_bytes.specs.declared.OctantBytesRefusal.{OctantBytesRefusal}
use Rattle.std.specs.Prelude.{⊤, Result}
use Rattle.octant_bytes.specs.Answers.{number_of, kept, Answered, Numbered}
use Rattle.octant_bytes.specs.Bytes.{octant_bytes}

pub numbered : (address : ℕ) (ls : List (List ℕ)) (before after : List ℕ) (x : Result ⊤ OctantBytesRefusal) (r : ℕ) → Answered address ls before after x → r ≡ number_of x
    → Numbered address ls before after r
numbered address ls before after x r a e =
    record {
      number = e ∙ ap number_of a.answer;
      bytes = a.bytes ∙ ap (λ (y : Result ⊤ OctantBytesRefusal). kept y (octant_bytes address ls) before) a.answer;
    }
