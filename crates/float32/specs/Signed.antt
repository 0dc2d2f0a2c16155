-- Signed numbers over ℕ, in which the laws of order and the standards' statements are said: a finite value is (over − under) / den. Definitions only.
use Rattle.std.specs.Prelude.{ℕ, ◌+◌, ◌-◌, ◌*◌, ◌^◌, Bool, false, cond, ltb, eqb, ℤ, pos, neg_ℤ, Float}
use Rattle.std.specs.Float.{nan, inf, fin}
use Rattle.std.specs.Float.Ieee.{up}

abbrev pub negative : Float → Bool
negative nan = false
negative (inf s) = s
negative (fin s m e) = s

-- |a - b|: one of the two differences is cut off at 0.
abbrev pub apart : ℕ → ℕ → ℕ
apart a b = a - b + (b - a)

-- A finite x is (over x - under x) / den x, and one of the two is 0.
abbrev pub over : Float → ℕ
over nan = 0
over (inf s) = 0
over (fin s m e) = cond s 0 (m * up e)

abbrev pub under : Float → ℕ
under nan = 0
under (inf s) = 0
under (fin s m e) = cond s (m * up e) 0

-- the sign of p - q, and z where that is zero
abbrev pub sign_of : Bool → ℕ → ℕ → Bool
sign_of z p q = cond (eqb p q) z (ltb p q)

-- the ends of the range, -2 ^ h and 2 ^ h - 1
abbrev pub lowest : ℕ → ℤ
lowest h = neg_ℤ (pos (2 ^ h))

abbrev pub highest : ℕ → ℤ
highest h = pos (2 ^ h - 1)
