-- What `build_materials` answers, and what its outputs then hold. Definitions only.
use Rattle.std.specs.Prelude.{ℕ, ◌*◌, Bool, cond, ◌||◌, List, ◌≡◌, Result, Ok, Err, ltb, length}
use Rattle.base.specs.Lists.{over}
use Rattle.materials.specs.declared.building.MaterialsRefusal.{MaterialsRefusal}
use Rattle.materials.specs.declared.building.MaterialsRefusal.TheVariants.{TooMany, BufferTooShort, TooManyMaterials}
use Rattle.materials.specs.declared.building.Lengths.{Lengths}
use Rattle.materials.specs.Materials.{list_of, indices_of, materials_bytes}

-- 01, materials, 1: over 32,767 polygons or 256 materials.
abbrev pub many : ℕ → ℕ → Bool
many n m = ltb 32767 n || ltb 256 m

-- 01, materials, 2: a byte a number and an index, two words a material, 2,048 bytes for the list.
abbrev pub short : ℕ → ℕ → Lengths → Bool
short n m l = ltb l.numbers n || ltb l.mats (2 * m) || ltb l.list 2048 || ltb l.indices n

-- Rule M3 (01, materials): the checks in the order written. The last never holds (proofs/ListLaws, `few_materials`).
unfoldable pub answer_of : ℕ → ℕ → Lengths → List ℕ → Result ℕ MaterialsRefusal
answer_of n m l ms =
    cond (many n m) (Err TooMany)
    (cond (short n m l) (Err BufferTooShort)
    (cond (ltb 256 (length (list_of ms))) (Err TooManyMaterials) (Ok (length (list_of ms)))))

-- 01's number for each refusal
abbrev pub refusal_number : MaterialsRefusal → ℕ
refusal_number TooMany = 1
refusal_number BufferTooShort = 2
refusal_number TooManyMaterials = 8

-- and for each answer, 0 where it is not refused
abbrev pub number_of : Result ℕ MaterialsRefusal → ℕ
number_of (Ok count) = 0
number_of (Err why) = refusal_number why

-- what a buffer holds at the end: on a refusal what it had
abbrev pub kept : Result ℕ MaterialsRefusal → List ℕ → List ℕ → List ℕ
kept (Ok count) written before = over written before
kept (Err why) written before = before

-- The answer, and every byte of the list and of the indices. ms are the polygons' materials.
pub record Answered (n m : ℕ) (l : Lengths) (ms list₀ list indices₀ indices : List ℕ) (r : Result ℕ MaterialsRefusal) : Type 0 where
  pub answer : r ≡ answer_of n m l ms
  pub listed : list ≡ kept r (materials_bytes (list_of ms)) list₀
  pub indexed : indices ≡ kept r (indices_of ms) indices₀
