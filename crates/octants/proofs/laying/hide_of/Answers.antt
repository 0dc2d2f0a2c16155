-- `hide_of` meets its contract: by how many axes fail.
use Rattle.shadows.specs.Nearness.{inside_of}
use Rattle.octants.proofs.EndLaws.{at_most_one, hides_whole, hides_none}
use native.Mathlib.Omega.{arith}
use Rattle.octants.proofs.laying.hide_of.Goals as goal

pub overflow_add-failed : goal.overflow_add-failed
overflow_add-failed c =
    let a = c.args.a in
    omega (arith, c.outside.ensures, c.outside-2.ensures, at_most_one (inside_of a.x 0x0080_0000), at_most_one (inside_of a.y 0x0080_0000))

pub overflow_add-failed-2 : goal.overflow_add-failed-2
overflow_add-failed-2 c =
    let a = c.args.a in
    omega (
      arith,
      c.outside.ensures,
      c.outside-2.ensures,
      c.outside-3.ensures,
      at_most_one (inside_of a.x 0x0080_0000),
      at_most_one (inside_of a.y 0x0080_0000),
      at_most_one (inside_of a.z 0x0080_0000),
    )

pub returns-then-failed-eq0 : goal.returns-then-failed-eq0
returns-then-failed-eq0 c =
    hides_whole c.args.a _ _ _ c.outside.ensures c.outside-2.ensures c.outside-3.ensures c.if-failed-eq0.true

pub returns-else-failed-eq0 : goal.returns-else-failed-eq0
returns-else-failed-eq0 c =
    hides_none c.args.a _ _ _ c.outside.ensures c.outside-2.ensures c.outside-3.ensures c.if-failed-eq0.false
