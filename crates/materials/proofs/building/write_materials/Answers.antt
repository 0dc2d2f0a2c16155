-- `write_materials`: the list's words, and then its bytes.
use mathlib.Core.Path.{ap, ◌∙◌}
use Rattle.base.specs.Lists.{over}
use Rattle.materials.specs.Materials.{materials_bytes}
use Rattle.materials.proofs.building.write_materials.Goals as goal

pub returns : goal.returns
returns c =
    let d = c.dedupe-count.ensures in
    record {
      counted = d.counted;
      few = d.few;
      listed = c.put_list.ensures ∙ ap (λ ms. over (materials_bytes ms) c.args.list.now) d.listed;
      indexed = d.indexed;
    }
