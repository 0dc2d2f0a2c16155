-- `struct_box` meets its contract: by the kind, and then what `bbox` ensures (GeometryLaws).
use Rattle.polygon_answers.proofs.GeometryLaws.{not_boxed, boxed_answer}
use Rattle.polygon_answers.proofs.struct_box.Goals as goal

pub returns-then-polygon-gt4 : goal.returns-then-polygon-gt4
returns-then-polygon-gt4 c = not_boxed _ _ _ c.if-polygon-gt4.true c.unboxed.ensures

pub returns : goal.returns
returns c =
    boxed_answer _ _ _ _ _ c.if-polygon-gt4.false c.polygon_in.ensures c.bbox.ensures c.boxed.ensures
