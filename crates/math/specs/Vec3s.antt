-- Points: one rounded step of binary32 for each operator, in the source's order (math.rs, Vec3; bounds.rs and bvh.rs, the functions named). Definitions only.
use Rattle.std.specs.Prelude.{cond, Float}
use Rattle.std.specs.Float.{binary32}
use Rattle.std.specs.declared.cmp.Ordering.{Ordering}
use Rattle.std.specs.Ordering.{ordering_then}
use Rattle.std.specs.Float.Ieee.{of_bits, add, sub, mul, div, neg, lt}
use Rattle.float32.specs.Signs as Signs
use Rattle.float32.specs.SquareRoot.{sqrt_of}
use Rattle.float32.specs.Extremes.{vmin_of, vmax_of}
use Rattle.float32.specs.SortOrder.{cmp_of}
use Rattle.math.specs.declared.vec3.Vec3.{Vec3}

-- the rounded sum, difference, product and quotient
infixl 20 ◌⊕◌
infixl 20 ◌⊖◌
infixl 30 ◌⊗◌
infixl 30 ◌⊘◌
abbrev pub ◌⊕◌ : Float → Float → Float
a ⊕ b = add binary32 a b

abbrev pub ◌⊖◌ : Float → Float → Float
a ⊖ b = sub binary32 a b

abbrev pub ◌⊗◌ : Float → Float → Float
a ⊗ b = mul binary32 a b

abbrev pub ◌⊘◌ : Float → Float → Float
a ⊘ b = div binary32 a b

-- axis by axis
abbrev pub each : (Float → Float) → Vec3 → Vec3
each f a = record { x = f a.x; y = f a.y; z = f a.z }

abbrev pub both : (Float → Float → Float) → Vec3 → Vec3 → Vec3
both f a b = record { x = f a.x b.x; y = f a.y b.y; z = f a.z b.z }

-- Rule V1 (math.rs, Add, Sub, Mul, Neg, abs): axis by axis.
abbrev pub add_of : Vec3 → Vec3 → Vec3
add_of a b = both ◌⊕◌ a b

abbrev pub sub_of : Vec3 → Vec3 → Vec3
sub_of a b = both ◌⊖◌ a b

abbrev pub scale_of : Vec3 → Float → Vec3
scale_of a k = each (λ (v : Float). v ⊗ k) a

abbrev pub neg_of : Vec3 → Vec3
neg_of a = each neg a

abbrev pub abs_of : Vec3 → Vec3
abs_of a = each Signs.abs_of a

-- Rule V2 (math.rs, dot): the products' sum from x on.
abbrev pub dot_of : Vec3 → Vec3 → Float
dot_of a b = ((a.x ⊗ b.x) ⊕ (a.y ⊗ b.y)) ⊕ (a.z ⊗ b.z)

-- Rule V3 (math.rs, cross).
abbrev pub cross_of : Vec3 → Vec3 → Vec3
cross_of a b =
    record {
      x = (a.y ⊗ b.z) ⊖ (a.z ⊗ b.y);
      y = (a.z ⊗ b.x) ⊖ (a.x ⊗ b.z);
      z = (a.x ⊗ b.y) ⊖ (a.y ⊗ b.x);
    }

-- Rule V4 (01, Float steps; math.rs, length): the correctly rounded root of the dot product.
abbrev pub length_of : Vec3 → Float
length_of a = sqrt_of binary32 (dot_of a a)

-- Rule V5 (bounds.rs, vmul, vdiv, vadd_f).
abbrev pub vmul_of : Vec3 → Vec3 → Vec3
vmul_of a b = both ◌⊗◌ a b

abbrev pub vdiv_of : Vec3 → Vec3 → Vec3
vdiv_of a b = both ◌⊘◌ a b

abbrev pub vadd_of : Vec3 → Float → Vec3
vadd_of a f = each (λ (v : Float). v ⊕ f) a

-- 1e-6 and 1, as the source's literals round
abbrev pub tolerance : Float
tolerance = of_bits binary32 0x3586_37bd

abbrev pub one : Float
one = of_bits binary32 0x3f80_0000

-- Rule V6 (bounds.rs, norm): scaled by 1 / length where the length is above 1e-6, else unchanged.
unfoldable pub norm_of : Vec3 → Vec3
norm_of v = cond (lt tolerance (length_of v)) (scale_of v (one ⊘ length_of v)) v

-- Rule V7 (01, Float steps; bounds.rs, vmin, vmax): rule F3 axis by axis.
abbrev pub vmin3_of : Vec3 → Vec3 → Vec3
vmin3_of a b = both vmin_of a b

abbrev pub vmax3_of : Vec3 → Vec3 → Vec3
vmax3_of a b = both vmax_of a b

-- Rule V8 (bvh.rs, cmp_vec3): rule F2 in x, then y, then z.
abbrev pub cmp_vec3_of : Vec3 → Vec3 → Ordering
cmp_vec3_of a b = ordering_then (ordering_then (cmp_of a.x b.x) (cmp_of a.y b.y)) (cmp_of a.z b.z)
