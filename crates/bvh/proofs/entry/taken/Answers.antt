-- `entry::taken` meets its contract: each test of the code is one of the definition's.
use Rattle.std.specs.Prelude.{◌*◌}
use borrow.Author.Tests.{le-leb, lt-leb}
use native.Mathlib.Omega.{arith}
use Rattle.bvh.proofs.entry.taken.Goals as goal

pub returns-then-n-gt32767 : goal.returns-then-n-gt32767
returns-then-n-gt32767 c =
    let few = lt-leb c.args.n 32767 (omega arith) in
    rw few

pub returns-then-n-room : goal.returns-then-n-room
returns-then-n-room c =
    let few = le-leb c.args.n 32767 (omega arith) in
    let room = lt-leb (7 * c.args.n) c.args.room (omega arith) in
    rw (few, room)

pub returns-else-n-room : goal.returns-else-n-room
returns-else-n-room c =
    let few = le-leb c.args.n 32767 (omega arith) in
    let room = le-leb (7 * c.args.n) c.args.room (omega arith) in
    rw (few, room)
