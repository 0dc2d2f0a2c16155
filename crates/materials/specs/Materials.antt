-- The materials that polygons use, each once, and the index of each polygon's among them (01, Polygons; bounds.rs, build_materials).
-- A material is a number: its eight bytes. Definitions only.
use Rattle.std.specs.Prelude.{ℕ, ◌+◌, ◌*◌, cond, List, [], ◌∷◌, ◌++◌, map, eqb, ltb, length, get_or, take}
use Rattle.base.specs.LittleEndian.{little_endian}

-- the two words of a material as one number (bounds.rs, BoundMaterial: data1, data2)
abbrev pub material_of : ℕ → ℕ → ℕ
material_of data1 data2 = data1 + 4294967296 * data2

-- Rule M1 (01: "missing material is (0,0)"): the material that a number stands for, of m materials of two words each.
unfoldable pub value_at : ℕ → List ℕ → ℕ → ℕ
value_at m mats b = cond (ltb b m) (material_of (get_or mats (2 * b) 0) (get_or mats (2 * b + 1) 0)) 0

-- Rule M1: the materials of the first n polygons, which have these numbers.
abbrev pub values_of : ℕ → List ℕ → ℕ → List ℕ → List ℕ
values_of m mats n numbers = map (value_at m mats) (take n numbers)

-- where a material stands first in a list; the list's length, where it does not
abbrev pub place_in : List ℕ → ℕ → ℕ
place_in [] x = 0
place_in (y ∷ ys) x = cond (eqb y x) 0 (1 + place_in ys x)

-- behind the others, unless it is there
unfoldable pub admit : List ℕ → ℕ → List ℕ
admit xs x = cond (ltb (place_in xs x) (length xs)) xs (xs ++ (x ∷ []))

abbrev pub list_from : List ℕ → List ℕ → List ℕ
list_from xs [] = xs
list_from xs (m ∷ ms) = list_from (admit xs m) ms

-- Rule M2 (01: "first appearance"): each material once, in the order in which they come first.
abbrev pub list_of : List ℕ → List ℕ
list_of ms = list_from [] ms

-- Rule M2 (01: "indices"): each polygon's index in the list.
abbrev pub indices_of : List ℕ → List ℕ
indices_of ms = map (place_in (list_of ms)) ms

-- Rule M2: the list as bytes, eight a material.
abbrev pub materials_bytes : List ℕ → List ℕ
materials_bytes [] = []
materials_bytes (m ∷ ms) = little_endian 8 m ++ materials_bytes ms
