-- A stored vertex is three i16s, whatever the point and the quantum. Assumes nothing.
use Rattle.float32.specs.Casts.{vertex_of}
use Rattle.math.specs.declared.vec3.Vec3.{Vec3}
use Rattle.records.specs.Records.{VertexFits}
use Rattle.records.proofs.Fitting.{truncated_fits}
use Rattle.vertices.specs.Vertices.{stored_of}

pub stored_fits : (v q : Vec3) → VertexFits (stored_of v q)
unfolding stored_of vertex_of
stored_fits v q = (truncated_fits _, truncated_fits _, truncated_fits _)
