-- `put_one` meets its contract: the vertex is stored once, and read back from what is stored.
use Prim.Native.Nat.{◌*◌}
use mathlib.Core.Path.{ap, ◌∙◌}
use lib.Seq.{sets}
use Rattle.math.specs.declared.vec3.Vec3.{Vec3}
use Rattle.points.specs.Points.{words_of}
use Rattle.records.specs.declared.BoundVertex.{BoundVertex}
use Rattle.records.specs.Records.{vertex_bytes}
use Rattle.vertices.specs.Vertices.{stored_of, read_back_of}
use Rattle.finishing.specs.Stored.{stored_at, back_at}
use Rattle.finishing.proofs.storing.put_one.Goals as goal

pub returns : goal.returns
unfolding stored_at back_at
returns c =
    let a = c.args in
    let is = c.stored-vertex.ensures ∙ ap (λ (x : Vec3). stored_of x a.quantum) c.vertex_at.ensures in
    let back = c.read_back.ensures ∙ ap (λ (x : BoundVertex). read_back_of x a.quantum) is in (
      c.put_triple.ensures ∙ ap (λ (x : BoundVertex). sets a.stored.now (6 * a.i) (vertex_bytes x)) is,
      c.put_point.ensures ∙ ap (λ (x : Vec3). sets a.floats.now (3 * a.i) (words_of x)) back,
    )
