-- `items::gather` meets its contract. The loop's invariant, `Gathering`: the places so far, followed by those still to be marked, are all.
use Rattle.std.specs.Prelude.{ℕ, ◌+◌, ◌*◌, get_or, set}
use mathlib.Core.Path.{subst, sym}
use Rattle.bvh.specs.Items.{is_marked}
use Rattle.bvh.proofs.items.Gathering.{Gathering, begin, next, done, one_or_none}
use native.Mathlib.Omega.{arith}
use Rattle.bvh.proofs.items.gather.Goals as goal

pub loop-p-init : goal.loop-p-init
loop-p-init c = begin _ _ _

pub one_if_marked-k-requires : goal.one_if_marked-k-requires
one_if_marked-k-requires c = tt

pub overflow_add-k : goal.overflow_add-k
overflow_add-k c =
    let mark = get_or c.args.entries.now (7 * c.loop-p.p) 0 in
    omega (arith, one_or_none (is_marked mark), c.one_if_marked-k.ensures)

pub loop-p-preserved : goal.loop-p-preserved
loop-p-preserved c =
    let l = c.loop-p in
    let a = c.args in
    subst (λ (r : ℕ). Gathering a.n a.entries.now a.places.now (set l.places l.k l.p) (l.k + r) (l.p + 1))
    (sym c.one_if_marked-k.ensures)
    (next a.n a.entries.now a.places.now l.places l.k l.p l.invariant (omega arith) (omega arith))

pub returns : goal.returns
returns c =
    let l = c.loop-p in
    done _ _ _ _ _ _ l.invariant c.loop-p-test.false
