-- `divide::divide` meets its contract: what the calls ensure, and the first group begins as the places do, as far as they stand.
use native.Mathlib.Omega.{arith}
use Prim.Native.Nat.{ℕ}
use mathlib.Core.List.{List}
use Rattle.entries.specs.Boxes.{box_at}
use Rattle.split.proofs.Beginning.{first_begins}
use Rattle.split.proofs.divide.divide.Goals as goal

pub returns : goal.returns
returns c =
    let b = c.begun_within in
    let d = c.divide_by-g in
    let m = c.measure-m in
    let g = c.args in
    let at = box_at g.entries.now in
    let ps : List ℕ = g.places.now in
    let r : ℕ = d.result.first in (
      d.ensures.0,
      m.ensures.0,
      first_begins at m.result.begun b.result ps d.new.places d.result.same r m.ensures.2 d.ensures.1
          (omega (arith, d.ensures.0.rest, d.auto.places)) b.ensures,
    )
