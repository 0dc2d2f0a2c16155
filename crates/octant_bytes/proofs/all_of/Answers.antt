-- `all_of`: eight lengths of at most 32,768 each.
use native.Mathlib.Omega.{arith}
use Rattle.octant_bytes.proofs.all_of.Goals as goal

pub overflow_add-result-7 : goal.overflow_add-result-7
overflow_add-result-7 c =
    let p = c.requires in
    omega (arith, p.0, p.1.0, p.1.1.0, p.1.1.1.0, p.1.1.1.1.0, p.1.1.1.1.1.0, p.1.1.1.1.1.1.0, p.1.1.1.1.1.1.1.0)

pub returns : goal.returns
returns c =
    let p = c.requires in (
      omega arith,
      omega (arith, p.0, p.1.0, p.1.1.0, p.1.1.1.0, p.1.1.1.1.0, p.1.1.1.1.1.0, p.1.1.1.1.1.1.0, p.1.1.1.1.1.1.1.0),
    )
