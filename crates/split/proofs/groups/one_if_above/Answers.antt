-- `groups::one_if_above` meets its contract: what the lane holds, and each arm by its test.
use Prim.Native.Nat.{◌+◌, ◌*◌}
use mathlib.Core.Path.{◌≡◌, sym, ap, ◌∙◌}
use lib.ListN.{get_or}
use lib.Ieee.{lt, nan}
use Rattle.base.specs.Lists.{one_if}
use Rattle.split.specs.Steps.Groups.{passes}
use Rattle.split.proofs.LaneLaws.{kept_lane}
use Rattle.split.proofs.groups.one_if_above.Goals as goal

pub returns-then-centres-at : goal.returns-then-centres-at
unfolding passes
returns-then-centres-at c =
    let test-is : lt c.args.cut (get_or c.args.centres.now (4 * c.args.place.0 + c.args.step) nan) ≡ passes c.args.entries.now c.args.step c.args.cut c.args.place.0 =
    let a = c.args in
    ap (lt a.cut) (kept_lane a.entries.now a.centres.now c.requires.2 a.place.0 c.requires.0 a.step c.requires.1) in
    sym (ap one_if (sym test-is ∙ c.if-centres-at.true))

pub returns-else-centres-at : goal.returns-else-centres-at
unfolding passes
returns-else-centres-at c =
    let test-is : lt c.args.cut (get_or c.args.centres.now (4 * c.args.place.0 + c.args.step) nan) ≡ passes c.args.entries.now c.args.step c.args.cut c.args.place.0 =
    let a = c.args in
    ap (lt a.cut) (kept_lane a.entries.now a.centres.now c.requires.2 a.place.0 c.requires.0 a.step c.requires.1) in
    sym (ap one_if (sym test-is ∙ c.if-centres-at.false))
