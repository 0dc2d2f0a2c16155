-- The loop of `put_list`: the materials before i stand at the start, eight bytes each.
use Prim.Native.Nat.{ℕ, ◌+◌, ◌*◌, ◌≤◌, ◌<◌}
use native.Mathlib.Omega.{arith}
use native.Mathlib.Numerals.{add-one}
use mathlib.Core.Path.{◌≡◌, refl, sym, ap, ◌∙◌}
use mathlib.Core.List.{List, [], ◌∷◌, ◌++◌, append_assoc, append-nil}
use lib.ListN.{length, get_or, take, length-append}
use lib.Seq.{sets, length-sets, length-take-le, take-suc}
use Rattle.base.specs.LittleEndian.{little_endian}
use Rattle.base.specs.Lists.{over}
use Rattle.base.proofs.StoreLaws.{stores_leave, over_more}
use Rattle.materials.specs.Materials.{materials_bytes}

eight : (m : ℕ) → length (little_endian 8 m) ≡ 8
unfolding little_endian
eight m = refl

pub length_bytes : (ms : List ℕ) → length (materials_bytes ms) ≡ 8 * length ms
length_bytes [] = refl
length_bytes (m ∷ ms) = omega (arith, length-append (little_endian 8 m) (materials_bytes ms), eight m, length_bytes ms)

bytes_more : (ms : List ℕ) (m : ℕ) → materials_bytes (ms ++ (m ∷ [])) ≡ materials_bytes ms ++ little_endian 8 m
bytes_more [] m = append-nil (little_endian 8 m)
bytes_more (k ∷ ms) m =
    ap (λ (l : List ℕ). little_endian 8 k ++ l) (bytes_more ms m) ∙ sym (append_assoc (little_endian 8 k) (materials_bytes ms) (little_endian 8 m))

pub record Putting (list before now : List ℕ) (i : ℕ) : Type 0 where
  pub len : length now ≡ length before
  pub put : now ≡ over (materials_bytes (take i list)) before

pub start : (list out : List ℕ) → Putting list out out 0
start list out = record { len = refl; put = refl }

pub one_more : (list before now after : List ℕ) (i : ℕ) → Putting list before now i → i < length list → 8 * i + 8 ≤ length before
    → after ≡ sets now (8 * i) (little_endian 8 (get_or list i 0)) → Putting list before after (i + 1)
one_more list before now after i g h r a =
    let m : ℕ = get_or list i 0 in
    let written = materials_bytes (take i list) in
    let full : length written ≡ 8 * i = length_bytes (take i list) ∙ ap (λ (k : ℕ). 8 * k) (length-take-le i list (omega arith)) in
    let next : take (i + 1) list ≡ take i list ++ (m ∷ []) = ap (λ (k : ℕ). take k list) (add-one i) ∙ take-suc list i 0 h in
    record {
      len = ap length a ∙ length-sets now (8 * i) (little_endian 8 m) ∙ g.len;
      put =
          a
          ∙ ap (λ (l : List ℕ). sets l (8 * i) (little_endian 8 m)) g.put
          ∙ stores_leave (over written before) (little_endian 8 m) (8 * i) 8 (eight m) (omega (arith, ap length g.put, g.len))
          ∙ over_more written (little_endian 8 m) before (8 * i) 8 full (eight m)
          ∙ ap (λ (l : List ℕ). over l before) (sym (ap materials_bytes next ∙ bytes_more (take i list) m));
    }
