-- Rule S7 on a mesh (bounds.rs, calculate_verts_shrunk): the margins are tried one after the other. Definitions only.
use Rattle.std.specs.Prelude.{Float, Option}
use Rattle.rings.specs.Meshes.{Mesh}
use Rattle.shrink.specs.Margins.{passing}
use Rattle.trial.specs.Trials.{passes_at}

-- Rule S7, with 148 turns: these are all (proofs/AllTried, `all_tried`).
abbrev pub margin_of : Mesh → Float → Option Float
margin_of mesh start = passing (passes_at mesh) 148 start
