-- `put_written` meets its contract. The loop's invariant: the records before i are written, and nothing else is changed.
use Prim.Native.Nat.{ℕ, ◌*◌}
use native.Mathlib.Omega.{arith}
use mathlib.Core.Path.{ap₂, ◌∙◌}
use mathlib.Core.List.{List}
use lib.Seq.{sets}
use Rattle.polygon.specs.Polygons.{polygon_bytes}
use Rattle.polygon.specs.declared.Polygon.{Polygon}
use Rattle.linking.proofs.WrittenLaws.{written_next}
use Rattle.linking.proofs.put_written.Goals as goal

pub loop-i-preserved : goal.loop-i-preserved
loop-i-preserved c =
    let l = c.loop-i in
    let a = c.args in
    c.put_polygon.ensures
    ∙ ap₂ (λ (bytes : List ℕ) (q : Polygon). sets bytes (16 * l.i) (polygon_bytes q)) l.invariant c.polygon_at.ensures
    ∙ written_next a.polygons.now a.out.now l.i (omega (arith, c.requires.2))
