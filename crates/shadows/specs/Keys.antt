-- Shadowing by whole numbers: the sort keys of the words (rule F2) in place of rounded differences. Definitions only.
use Rattle.std.specs.Prelude.{ℕ, Bool, true, false, not, ◌&&◌, leb, eqb}
use Rattle.float32.specs.SortOrder.{key_of}
use Rattle.math.specs.declared.words3.Words3.{Words3}
use Rattle.shadows.specs.Shadows.{falls_x, falls_y, falls_z}

-- the key of the infinity at the far end, where the direction rises and where it falls; the near end's is the other
abbrev pub far_end : Bool → ℕ
far_end false = 0xff80_0000
far_end true = 0x0080_0000

-- l is at least as far as k
abbrev pub as_far : Bool → ℕ → ℕ → Bool
as_far false k l = leb k l
as_far true k l = leb l k

-- Rule O1: what can be shadowed is no NaN (key 0) and not at the far end; what can shadow is no NaN and not at the near end.
abbrev pub hideable : Bool → ℕ → Bool
hideable falls k = not (eqb k 0) && not (eqb k (far_end falls))

abbrev pub caster : Bool → ℕ → Bool
caster falls l = not (eqb l 0) && not (eqb l (far_end (not falls)))

-- Rule O1 on one axis, of two keys
unfoldable pub key_reaches : Bool → ℕ → ℕ → Bool
key_reaches falls k l = hideable falls k && (caster falls l && as_far falls k l)

-- Rule O1: shadowing, by keys alone.
unfoldable pub shadowed_by_keys : ℕ → Words3 → Words3 → Bool
unfolding key_reaches
shadowed_by_keys o a b =
    key_reaches (falls_x o) (key_of a.x) (key_of b.x)
    && (key_reaches (falls_y o) (key_of a.y) (key_of b.y) && key_reaches (falls_z o) (key_of a.z) (key_of b.z))
