-- The list of materials as it is written (01, Prepare: "materials (filled to four with (0,0), with the count before filling)"). Definitions only.
use Rattle.std.specs.Prelude.{ℕ, ◌-◌, List, ◌++◌, length, replicate}
use Rattle.materials.specs.Materials.{list_of, materials_bytes}

-- Rule M4 (bounds.rs, prepare: `if mats.len() < 4 { mats.resize(4, BoundMaterial::default()); }`)
abbrev pub filled : List ℕ → List ℕ
filled ms = ms ++ replicate (4 - length ms) 0

-- Rule M4: the bytes of the list of the polygons' materials ms.
unfoldable pub list_bytes : List ℕ → List ℕ
list_bytes ms = materials_bytes (filled (list_of ms))
