-- Rule S5 (bounds.rs, shrink_polys_by_margin: shrunk): where a vertex moves to, by the normals of the polygons around it. Definitions only.
use Rattle.std.specs.Prelude.{cond, List, [], ◌∷◌, Float}
use Rattle.std.specs.Float.{binary32}
use Rattle.std.specs.Float.Ieee.{of_bits, lt}
use Rattle.float32.specs.Signs as Signs
use Rattle.float32.specs.SquareRoot.{sqrt_of}
use Rattle.math.specs.declared.vec3.Vec3.{Vec3}
use Rattle.math.specs.Vec3s.{◌⊘◌, one, add_of, sub_of, scale_of, dot_of, cross_of, norm_of}
use Rattle.rings.specs.declared.moving.Push.{Push}

-- 0.25 and 0.1
abbrev pub quarter : Float
quarter = of_bits binary32 0x3e80_0000

abbrev pub tenth : Float
tenth = of_bits binary32 0x3dcc_cccd

-- Rule S5 (`vertex + normal * neg`): the vertex, moved along a normal
abbrev pub along_of : Push → Vec3 → Vec3
along_of m n = add_of m.from (scale_of n m.by)

-- Rule S5 (`to_new.dot(to_new)`): the square of the way to x
abbrev pub way_of : Push → Vec3 → Float
way_of m x = dot_of (sub_of x m.from) (sub_of x m.from)

-- Rule S5: the farther of two, the earlier one at a tie
abbrev pub farther_of : Push → Vec3 → Vec3 → Vec3
farther_of m best x = cond (lt (way_of m best) (way_of m x)) x best

-- Rule S5 (new_shrink): where the planes of three normals meet, each moved
abbrev pub meet_of : Push → Vec3 → Vec3 → Vec3 → Vec3
meet_of m a b c =
    let k = cross_of b c in
    along_of m (scale_of (add_of (add_of k (cross_of c a)) (cross_of a b)) (one ⊘ dot_of a k))

-- Rule S5: three normals count where |their determinant| is above 0.25.
unfoldable pub triple_of : Push → Vec3 → Vec3 → Vec3 → Vec3 → Vec3
triple_of m a b best c = cond (lt quarter (Signs.abs_of (dot_of a (cross_of b c)))) (farther_of m best (meet_of m a b c)) best

-- Rule S5 (the loops over i, j, k): all triples in their order, the third normal behind the second, the second behind the first
abbrev pub each_third : Push → Vec3 → Vec3 → Vec3 → List Vec3 → Vec3
each_third m a b best [] = best
each_third m a b best (c ∷ ns) = each_third m a b (triple_of m a b best c) ns

abbrev pub each_second : Push → Vec3 → Vec3 → List Vec3 → Vec3
each_second m a best [] = best
each_second m a best (b ∷ ns) = each_second m a (each_third m a b best ns) ns

abbrev pub each_first : Push → Vec3 → List Vec3 → Vec3
each_first m best [] = best
each_first m best (a ∷ ns) = each_first m (each_second m a best ns) ns

-- Rule S5 (average): the sum from the left
abbrev pub sum_from : Vec3 → List Vec3 → Vec3
sum_from s [] = s
sum_from s (n ∷ ns) = sum_from (add_of s n) ns

-- Rule S5 (`cross * (1.0 / mag_sq.sqrt())`): a third normal, square to both of two
abbrev pub square_to : Vec3 → Vec3 → Vec3
square_to a b = scale_of (cross_of a b) (one ⊘ sqrt_of binary32 (dot_of (cross_of a b) (cross_of a b)))

-- Rule S5 (normal_count == 2): two normals and the one square to both; along the first where the angle is small, which a NaN is not
unfoldable pub between_of : Push → Vec3 → Vec3 → Vec3 → Vec3
unfolding triple_of
between_of m a b best =
    cond (lt (dot_of (cross_of a b) (cross_of a b)) tenth) (along_of m a) (each_first m best (a ∷ b ∷ square_to a b ∷ []))

-- Rule S5, of the normal of the vertex's first polygon and its ring's. The average does not have the third normal of two.
unfoldable pub moved_of : Push → Vec3 → List Vec3 → Vec3
unfolding between_of norm_of
moved_of m own [] = along_of m own
moved_of m own (b ∷ []) = between_of m own b (along_of m (norm_of (sum_from own (b ∷ []))))
moved_of m own (b ∷ c ∷ ns) = each_first m (along_of m (norm_of (sum_from own (b ∷ c ∷ ns)))) (own ∷ b ∷ c ∷ ns)
