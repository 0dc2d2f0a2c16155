-- The header of a tree (01, Records and ranges; bvh.rs, Bvh::write). Definitions only.
use Rattle.std.specs.Prelude.{ℕ, cond, List, ◌++◌, ◌≡◌, eqb, ltb, length, replicate, Result, Ok, Err}
use Rattle.math.specs.declared.words3.Words3.{Words3}
use Rattle.base.specs.Lists.{over}
use Rattle.base.specs.LittleEndian.{little_endian}
use Rattle.header.specs.declared.Bvh.{Bvh}
use Rattle.header.specs.declared.HeaderRefusal.{HeaderRefusal}
use Rattle.header.specs.declared.HeaderRefusal.TheVariants.{TooManyTrees, BufferTooShort}

-- Rule R6 (01: address, count, capacity (u64, u32, u32); 16 zeros; base.rs, write_simple_list64b).
unfoldable pub node_list_bytes : Bvh → List ℕ
node_list_bytes h = little_endian 8 h.nodes_address ++ little_endian 4 h.nodes_count ++ little_endian 4 h.nodes_capacity ++ replicate 16 0

-- Rule R7 (01: each with w bits FFC00000; mod.rs, Writer::vec4): x, y, z, w.
unfoldable pub point_bytes : Words3 → List ℕ
point_bytes p = little_endian 4 p.x ++ little_endian 4 p.y ++ little_endian 4 p.z ++ little_endian 4 0xffc0_0000

-- Rule R7 (01: min, max, cen, inverse, quantum; a copied NaN keeps its bits): the words of the five points as they were given.
unfoldable pub points_bytes : Bvh → List ℕ
points_bytes h =
    point_bytes h.bb_min
    ++ point_bytes h.bb_max
    ++ point_bytes h.bb_center
    ++ point_bytes h.quantum_inverse
    ++ point_bytes h.quantum

-- Rule R6 (01: tree address, count twice (u16), 4 zeros; base.rs, write_simple_list64).
unfoldable pub tree_list_bytes : Bvh → List ℕ
tree_list_bytes h = little_endian 8 h.trees_address ++ little_endian 2 h.trees_count ++ little_endian 2 h.trees_count ++ replicate 4 0

-- Rule R8 (01: the header is 128 bytes): the nodes, the points, the trees.
unfoldable pub header_bytes : Bvh → List ℕ
header_bytes h = node_list_bytes h ++ points_bytes h ++ tree_list_bytes h

-- Rule R9 (01, What each operation turns down): the number of each answer; 0 for no refusal.
abbrev pub header_number : Result Unit HeaderRefusal → ℕ
header_number (Ok done) = 0
header_number (Err TooManyTrees) = 1
header_number (Err BufferTooShort) = 2

-- Rule R9 (01, Tree header: 1 over 65,535 trees; 2 under 128 bytes): the checks in this order.
abbrev pub header_answer : Bvh → List ℕ → ℕ
header_answer h out = cond (ltb 65535 h.trees_count) 1 (cond (ltb (length out) 128) 2 0)

-- Rule R9 (01: a refusal changes no output buffer): the bytes at exit.
unfoldable pub header_exit : Bvh → List ℕ → List ℕ
header_exit h out = cond (eqb (header_answer h out) 0) (over (header_bytes h) out) out

-- Rule R9: what `tree_header` promises of its answer r and of the bytes after it.
pub record Headed (h : Bvh) (before after : List ℕ) (r : Result Unit HeaderRefusal) : Type 0 where
  pub answer : header_number r ≡ header_answer h before
  pub bytes : after ≡ header_exit h before
