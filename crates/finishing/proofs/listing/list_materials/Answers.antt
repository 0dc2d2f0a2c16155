-- `list_materials` meets its contract: each material once, filled to four, and then their bytes.
use Prim.Native.Nat.{ℕ}
use mathlib.Core.Path.{ap, ◌∙◌}
use mathlib.Core.List.{List}
use Rattle.base.specs.Lists.{over}
use Rattle.materials.specs.Materials.{materials_bytes}
use Rattle.finishing.specs.Filled.{filled, list_bytes}
use Rattle.finishing.proofs.listing.list_materials.Goals as goal

pub returns : goal.returns
unfolding list_bytes
returns c =
    let a = c.args in
    let d = c.dedupe-count.ensures in
    record {
      counted = d.counted;
      list_is =
          c.put_list.ensures
          ∙ ap (λ (ms : List ℕ). over (materials_bytes ms) a.list.now) (c.fill-all.ensures.0 ∙ ap filled d.listed);
      indices_are = d.indexed;
    }
