-- What the parts of `build_materials` say to each other. Definitions only.
use Rattle.std.specs.Prelude.{ℕ, ◌+◌, ◌*◌, ◌%◌, ◌≤◌, ◌<◌, ◌≡◌, List, length, get_or, take}
use Rattle.base.specs.Lists.{over}
use Rattle.materials.specs.Materials.{place_in, admit, list_of, indices_of, materials_bytes}

-- What the table has for a number whose material is x: nothing yet, or 1 and where x stands in the list.
pub record Placed (x : ℕ) (xs : List ℕ) (entry : ℕ) : Type 0 where
  pub place : (entry ≡ 0 → ⊥) → entry ≡ 1 + place_in xs x
  pub there : (entry ≡ 0 → ⊥) → place_in xs x < length xs

-- where a material's mark stands, behind the places of the 256 numbers
abbrev pub bucket_of : ℕ → ℕ
bucket_of x = x % 1021

-- Each material of the list has its mark.
pub record Marked (table xs : List ℕ) : Type 0 where
  pub marks : (y : ℕ) → place_in xs y < length xs → get_or table (256 + bucket_of y) 0 ≡ 0 → ⊥

-- There is room for the material x behind the first `count` of the list, if it is not among them.
pub record Fits (x : ℕ) (list : List ℕ) (count : ℕ) : Type 0 where
  pub inside : count ≤ length list
  pub few : length list ≤ 256
  pub room : place_in (take count list) x < length list

-- Number b's material x is in the list, of which the first r count, and the table has its place; the rest of the table is as it was.
pub record Entered (b x : ℕ) (table₀ table xs list : List ℕ) (r : ℕ) : Type 0 where
  pub counted : r ≡ length (admit xs x)
  pub listed : take r list ≡ admit xs x
  pub own : get_or table b 0 ≡ 1 + place_in xs x
  pub others : (c : ℕ) → c < 256 → (c ≡ b → ⊥) → get_or table c 0 ≡ get_or table₀ c 0
  pub marked : Marked table (admit xs x)

-- n numbers, m materials, and room for the list and the indices
pub record Given (n m : ℕ) (numbers mats list indices : List ℕ) : Type 0 where
  pub numbered : n ≤ length numbers
  pub few : m ≤ 256
  pub given : 2 * m ≤ length mats
  pub for_list : length list ≡ 256
  pub for_indices : n ≤ length indices

-- the same, but for the indices
pub record Countable (n m : ℕ) (numbers mats list : List ℕ) : Type 0 where
  pub numbered : n ≤ length numbers
  pub few : m ≤ 256
  pub given : 2 * m ≤ length mats
  pub for_list : length list ≡ 256

-- a table without a place
pub record Empty (table : List ℕ) : Type 0 where
  pub whole : length table ≡ 1280
  pub empty : (b : ℕ) → b < 256 → get_or table b 0 ≡ 0

-- The list's first r are the list of the materials ms, and the indices begin with theirs.
pub record Indexed (ms list indices₀ indices : List ℕ) (r : ℕ) : Type 0 where
  pub counted : r ≡ length (list_of ms)
  pub few : r ≤ 256
  pub listed : take r list ≡ list_of ms
  pub indexed : indices ≡ over (indices_of ms) indices₀

-- n numbers, m materials, and room for the list's bytes and the indices
pub record Room (n m : ℕ) (numbers mats list indices : List ℕ) : Type 0 where
  pub numbered : n ≤ length numbers
  pub few : m ≤ 256
  pub given : 2 * m ≤ length mats
  pub for_list : 2048 ≤ length list
  pub for_indices : n ≤ length indices

-- The r materials of the list of ms are written, and their indices.
pub record Listed (ms list₀ list indices₀ indices : List ℕ) (r : ℕ) : Type 0 where
  pub counted : r ≡ length (list_of ms)
  pub few : r ≤ 256
  pub listed : list ≡ over (materials_bytes (list_of ms)) list₀
  pub indexed : indices ≡ over (indices_of ms) indices₀
