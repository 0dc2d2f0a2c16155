-- What the functions below `walk_core` ask and leave. Definitions only; `walk_bvh`'s contract needs none of them.
use Rattle.std.specs.Prelude.{ℕ, ◌+◌, ◌-◌, ◌*◌, ◌≤◌, ◌<◌, Bool, is_ok, Ok, ◌&&◌, List, ◌≡◌, ltb, length}
use Rattle.std.proofs.lemmas.List.Edits.{sets}
use Rattle.base.specs.Lists.{up_from}
use Rattle.walk_steps.specs.Step.{Turn}
use Rattle.walk_steps.specs.declared.state.Sizes.{Sizes}
use Rattle.walk_steps.specs.declared.state.Step.{Step}
use Rattle.walk_steps.specs.declared.state.WalkState.{WalkState}

-- What a step asks: counts within 01's limits, buffers that hold them, a state within the counts.
pub record Steppable (z : Sizes) (nodes trees : List ℕ) (s : WalkState) : Type 0 where
  pub few_nodes : z.nodes ≤ 65535
  pub few_trees : z.trees ≤ 65535
  pub few_items : z.items ≤ 65535
  pub node_bytes : 16 * z.nodes ≤ length nodes
  pub tree_bytes : 16 * z.trees ≤ length trees
  pub last_in : s.last ≤ z.nodes
  pub handed_in : s.handed ≤ z.items
  pub few_reads : s.reads < 4294967296

-- The turn that a step stands for: its state, and its run of positions as a list.
abbrev pub turn_of : Step → Turn
turn_of r = record { state = r.state; given = up_from r.first.0 r.count }

-- What a step leaves: the turn, and a run whose positions are 16 bits wide.
pub record Stepped (t : Turn) (r : Step) : Type 0 where
  pub turn_is : turn_of r ≡ t
  pub short_run : r.first.0 + r.count ≤ 65536

-- What a run leaves: the turn's state, and its positions in the first places of the output.
pub record Ran (t : Turn) (out out' : List ℕ) (r : WalkState) : Type 0 where
  pub state_is : r ≡ t.state
  pub output_is : out' ≡ sets out 0 t.given

-- The state at tree k, the trees before it passed over.
abbrev pub ahead_at : ℕ → WalkState → WalkState
ahead_at k s =
    record { tree = k; at = s.at; last = s.last; reads = s.reads + (k - s.tree); handed = s.handed; status = Ok tt }

-- Whether a node of the range is left to read.
abbrev pub inside_range : WalkState → Bool
inside_range s = is_ok s.status && ltb s.at s.last
