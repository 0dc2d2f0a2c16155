-- What is asked and left where a geometry's lists are written. Definitions only.
use Rattle.std.specs.Prelude.{ℕ, ◌*◌, ◌≤◌, List, ◌≡◌, length}
use Rattle.base.specs.Lists.{over}
use Rattle.math.specs.declared.vec3.Vec3.{Vec3}
use Rattle.materials.specs.Materials.{list_of, indices_of}
use Rattle.finishing.specs.Filled.{list_bytes}
use Rattle.finishing.specs.Stored.{stored_bytes, floats_of}

-- v vertices, and room for them stored and read back
pub record StoreRoom (v : ℕ) (ws stored floats : List ℕ) : Type 0 where
  pub given : 3 * v ≤ length ws
  pub for_stored : 6 * v ≤ length stored
  pub for_floats : 3 * v ≤ length floats

-- They are stored and read back, and nothing else is changed.
pub record Stored (quantum : Vec3) (ws : List ℕ) (v : ℕ) (stored₀ stored floats₀ floats : List ℕ) : Type 0 where
  pub stored_are : stored ≡ over (stored_bytes quantum ws v) stored₀
  pub floats_are : floats ≡ over (floats_of quantum ws v) floats₀

-- p numbers of m materials, and room for the list and the indices
pub record ListRoom (p m : ℕ) (numbers mats list indices : List ℕ) : Type 0 where
  pub few : p ≤ 32767
  pub some : m ≤ 256
  pub numbered : p ≤ length numbers
  pub given : 2 * m ≤ length mats
  pub for_list : 2048 ≤ length list
  pub for_indices : p ≤ length indices

-- The list of the materials ms is written, filled, and their indices; r is how many it has before it is filled.
pub record Listed (ms list₀ list indices₀ indices : List ℕ) (r : ℕ) : Type 0 where
  pub counted : r ≡ length (list_of ms)
  pub list_is : list ≡ over (list_bytes ms) list₀
  pub indices_are : indices ≡ over (indices_of ms) indices₀
