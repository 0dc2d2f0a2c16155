-- Signed results that are small enough are read back as they are. Assumes nothing.
use mathlib.Core.Path.{◌≡◌, sym, ◌∙◌, subst}
use lib.Dec.{lit<}
use lib.IntN.{ℤ}
use mir.Syntax.{w16, w32}
use mir.Val.{SFits, to_z, of_z}
use mir.Facts.{to_z-of_z}
use Rattle.float32.specs.Casts.{low16, low16bits}
use Rattle.float32.proofs.Wrap.{signed_fits}
use Rattle.std.specs.declared.cmp.Ordering.{Ordering}
use Rattle.std.specs.declared.cmp.Ordering.TheVariants.{Less, Equal, Greater}
use Rattle.answers.specs.Numbers.{ordering_number}

ordering_fits : (o : Ordering) → SFits w32 (ordering_number o)
ordering_fits Less = record { sfits = lit< tt }
ordering_fits Equal = record { sfits = lit< tt }
ordering_fits Greater = record { sfits = lit< tt }

pub ordering_read : {z : ℤ} (o : Ordering) → z ≡ ordering_number o → to_z w32 (of_z w32 z) ≡ ordering_number o
ordering_read {z} o e = to_z-of_z (subst (λ (y : ℤ). SFits w32 y) (sym e) (ordering_fits o)) ∙ e

pub low16_read : {z : ℤ} (n : ℤ) → z ≡ low16 n → to_z w16 (of_z w16 z) ≡ low16 n
low16_read {z} n e = to_z-of_z (subst (λ (y : ℤ). SFits w16 y) (sym e) (signed_fits (low16bits n))) ∙ e
