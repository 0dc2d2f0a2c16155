-- `compare::relate` meets its contract: the relation by the same tests. Assumes nothing.
use Rattle.float32.proofs.Relations.{by_tests}
use Rattle.float32.proofs.compare.relate.Goals as goal

pub returns-then-is_nan : goal.returns-then-is_nan
returns-then-is_nan c =
    rw (by_tests c.args.a c.args.b, ← c.is_nan.ensures.value, ← c.is_nan-2.ensures.value, c.if-is_nan.true)

pub returns-then-a-b : goal.returns-then-a-b
returns-then-a-b c =
    rw (by_tests c.args.a c.args.b, ← c.is_nan.ensures.value, ← c.is_nan-2.ensures.value, c.if-is_nan.false, c.if-a-b.true)

pub returns-then-a-b-2 : goal.returns-then-a-b-2
returns-then-a-b-2 c =
    rw (by_tests c.args.a c.args.b, ← c.is_nan.ensures.value, ← c.is_nan-2.ensures.value, c.if-is_nan.false, c.if-a-b.false, c.if-a-b-2.true)

pub returns-else-a-b-2 : goal.returns-else-a-b-2
returns-else-a-b-2 c =
    rw (by_tests c.args.a c.args.b, ← c.is_nan.ensures.value, ← c.is_nan-2.ensures.value, c.if-is_nan.false, c.if-a-b.false, c.if-a-b-2.false)
