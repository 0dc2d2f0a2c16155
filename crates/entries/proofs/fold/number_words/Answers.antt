-- `fold::number_words` meets its contract: what the three calls ensure, none of a NaN.
use mathlib.Core.Path.{◌≡◌}
use mathlib.Core.Bool.{false, ◌||◌}
use lib.Ieee.{is_nan}
use Rattle.base.proofs.Truth.{neither}
use Rattle.math.specs.declared.vec3.Vec3.{Vec3}
use Rattle.entries.specs.Steps.Totals.{any_nan}
use Rattle.entries.proofs.fold.number_words.Goals as goal

none : (v : Vec3) → any_nan v ≡ false → (is_nan v.x ≡ false) × (is_nan v.y ≡ false) × (is_nan v.z ≡ false)
unfolding any_nan
none v e =
    let k = neither (is_nan v.x) (is_nan v.y || is_nan v.z) e in
    let l = neither (is_nan v.y) (is_nan v.z) k.1 in
    (k.0, l.0, l.1)

pub number_word-requires : goal.number_word-requires
number_word-requires c = (none c.args.v c.requires).0

pub number_word-requires-2 : goal.number_word-requires-2
number_word-requires-2 c = (none c.args.v c.requires).1

pub number_word-requires-3 : goal.number_word-requires-3
number_word-requires-3 c = (none c.args.v c.requires).2
