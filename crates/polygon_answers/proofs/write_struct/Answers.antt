-- `write_struct` meets its contract: by the kind, and then what `write` ensures (GeometryLaws).
use Rattle.polygon_answers.proofs.GeometryLaws.{not_written, written}
use Rattle.polygon_answers.proofs.write_struct.Goals as goal

pub returns-then-polygon-gt4 : goal.returns-then-polygon-gt4
returns-then-polygon-gt4 c = not_written _ _ c.if-polygon-gt4.true

pub returns : goal.returns
returns c =
    written _ _ _ _ _ _ c.if-polygon-gt4.false c.polygon_in.ensures c.write.ensures c.write_number.ensures
