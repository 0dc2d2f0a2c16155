-- `corners::kinds_known` meets its contract: it asks each kind in the range.
use Rattle.std.proofs.Common.{◌∙◌, ◌*◌, rules, arith}
use borrow.Author.Tests.{tests}
use Rattle.std.proofs.lemmas.Iterator.{YieldsList-from_range}
use Rattle.std.proofs.lemmas.Iterator.Search.{all_from_yields_List}
use lib.Dec.{leb}
use Prim.Native.Nat.{ℕ}
use Rattle.polygon.specs.Polygons.{kind_at}
use Rattle.corners.proofs.CornerLaws.{kinds_in_range}
use Rattle.corners.proofs.kinds_known.Goals as goal

pub returns : goal.returns
returns c =
    let a = c.args in
    all_from_yields_List (λ (i : ℕ). leb (kind_at a.polygons.now (16 * i)) 4) _ _ _ c.all.ensures.ran
    (YieldsList-from_range 0 a.n a.n (search rules) (omega arith)) (λ x b q k. search (rules, tests))
    ∙ kinds_in_range a.n a.polygons.now
