-- `shorts::put_short` meets its contract: std's two bytes of v, copied over those from `at` on.
use mathlib.Core.Path.{◌≡◌, sym, ap, ◌∙◌}
use mathlib.Core.List.{List, ◌++◌, ◌∷◌, []}
use native.Mathlib.Omega.{arith}
use Prim.Native.Nat.{ℕ, ◌+◌, ◌-◌, ◌%◌, ◌/◌}
use lib.IntN.{ℤ, pos, negsuc}
use lib.ListN.{take, drop}
use lib.Seq.{sets-eq}
use borrow.Rule.Slice.PartMut.{put_mid, Post-is}
use Rattle.std.proofs.lemmas.List.{append_assoc}
use mir.Syntax.{w16}
use mir.Val.{SFits, of_z, to_z}
use mir.Facts.{to_z-of_z}
use Rattle.float32.specs.Casts.{low16bits}
use Rattle.base.specs.LittleEndian.{little_endian}
use Rattle.records.specs.Shorts.{short_bytes}
use Rattle.records.proofs.shorts.put_short.Goals as goal

-- The word of an i16 is its low 16 bits.
word_is : (v : ℤ) → SFits w16 v → of_z w16 v ≡ low16bits v
word_is (pos a) f = omega (arith, f.sfits)
word_is (negsuc a) f = omega (arith, f.sfits)

pub returns : goal.returns
unfolding short_bytes little_endian
returns c =
    let v : ℤ = c.args.v in
    let word : of_z w16 (to_z w16 (of_z w16 v)) ≡ low16bits v = ap (of_z w16) (to_z-of_z c.ranges.v) ∙ word_is v c.ranges.v in
    let bytes : c.copy_from_slice.new.self ≡ short_bytes v =
    c.copy_from_slice.ensures.after ∙ c.to_le_bytes.ensures ∙ ap {B = List ℕ} (λ (n : ℕ). n % 256 ∷ n / 256 % 256 ∷ []) word in
    ap (λ (l : List ℕ). put_mid c.args.at (c.args.at + 2 - c.args.at) c.args.out.now l) bytes
    ∙ ap (λ (l : List ℕ). take c.args.at c.args.out.now ++ (short_bytes v ++ l)) (Post-is c.args.at (c.args.at + 2) c.args.out.now (omega arith))
    ∙ sym (append_assoc (take c.args.at c.args.out.now) (short_bytes v) (drop (c.args.at + 2) c.args.out.now))
    ∙ sym (sets-eq (short_bytes v) c.args.out.now c.args.at c.requires)
