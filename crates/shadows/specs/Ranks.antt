-- Shadowing in three comparisons: what casts no shadow is beyond all in z, and what cannot be shadowed is before all. Definitions only.
use Rattle.std.specs.Prelude.{ℕ, cond}
use Rattle.math.specs.declared.words3.Words3.{Words3}
use Rattle.shadows.specs.Nearness.{hideable, caster}

-- more than every nearness
abbrev pub beyond : ℕ
beyond = 0xffff_ffff

-- the nearness in z as one that shadows, and as one that is shadowed
unfoldable pub cast_of : Words3 → ℕ
unfolding caster
cast_of a = cond (caster a) a.z beyond

unfoldable pub hide_of : Words3 → ℕ
unfolding hideable
hide_of a = cond (hideable a) a.z 0
