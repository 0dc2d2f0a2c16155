-- What each operation gives, from words to words: the definition that the operation's own contract cites, between `of_bits` and `to_bits`. Definitions only.
use Rattle.std.specs.Prelude.{ℕ, ◌+◌, ◌%◌, List, [], ◌∷◌, from_bits, slice_index, to_bits, Float}
use Rattle.std.specs.Ordering.{nat_cmp, ordering_index}
use Rattle.std.specs.Float.{binary32}
use Rattle.float32.specs.Casts.{cast_i32, short_of, vertex_of}
use Rattle.float32.specs.Comparison.{relation_of}
use Rattle.float32.specs.Counts.{of_count}
use Rattle.float32.specs.Extremes.{vmin_of, vmax_of, vmin_word, vmax_word, min_number_of, max_number_of}
use Rattle.float32.specs.Signs.{abs_of as absFloat}
use Rattle.float32.specs.SortOrder.{cmp_of, key_of}
use Rattle.float32.specs.SquareRoot.{sqrt_of}
use Rattle.math.specs.Transform.{point_of, vector_of, transform_box}
use Rattle.math.specs.Vec3s.{add_of, sub_of, scale_of, neg_of, abs_of, vmul_of, vdiv_of, vadd_of, vmin3_of, vmax3_of}
use Rattle.math.specs.Vec3s.{dot_of, cross_of, length_of, norm_of, cmp_vec3_of}
use Rattle.math.specs.declared.vec3.Vec3.{Vec3}
use Rattle.math.specs.declared.mat4.Vec4.{Vec4}
use Rattle.math.specs.declared.mat4.Mat4.{Mat4}
use Rattle.math.specs.declared.aabb.Aabb.{Aabb}
use Rattle.replay.specs.Numbers.{relation_number, signed_word}
use Rattle.replay.specs.declared.operation.Operation.{Operation}
use Rattle.replay.specs.declared.operation.Operation.TheVariants as Op
use Rattle.replay.specs.declared.operation.WordStep.{WordStep}
use Rattle.replay.specs.declared.operation.WordStep.TheVariants as W
use Rattle.replay.specs.declared.operation.PairStep.{PairStep}
use Rattle.replay.specs.declared.operation.PairStep.TheVariants as P
use Rattle.replay.specs.declared.operation.PointsStep.{PointsStep}
use Rattle.replay.specs.declared.operation.PointsStep.TheVariants as Vs
use Rattle.replay.specs.declared.operation.PointStep.{PointStep}
use Rattle.replay.specs.declared.operation.PointStep.TheVariants as Vp
use Rattle.replay.specs.declared.operation.FactorStep.{FactorStep}
use Rattle.replay.specs.declared.operation.FactorStep.TheVariants as F
use Rattle.replay.specs.declared.operation.TransformStep.{TransformStep}
use Rattle.replay.specs.declared.operation.TransformStep.TheVariants as T
use Rattle.replay.specs.declared.answer.Answer.{Answer}
use Rattle.replay.specs.declared.answer.Answer.TheVariants.{One, Three, Four, Six}

-- the float that a word stands for, and the word of a float, which is 7FC00000 hexadecimal for a NaN
abbrev pub float : ℕ → Float
float w = from_bits binary32 w

abbrev pub word : Float → ℕ
word x = to_bits binary32 x

abbrev pub word_answer : WordStep → ℕ → ℕ
word_answer W.ValueBits a = word (float a)
word_answer W.ToI32 a = signed_word (cast_i32 (float a))
word_answer W.ToShort a = signed_word (short_of (float a))
word_answer W.VertexValue a = signed_word (vertex_of (float a))
word_answer W.Sqrt a = word (sqrt_of binary32 (float a))
word_answer W.OfCount a = word (of_count (a % 65536))
word_answer W.OrderKey a = key_of a
word_answer W.Abs a = word (absFloat (float a))

abbrev pub pair_answer : PairStep → ℕ → ℕ → ℕ
pair_answer P.Relate a b = relation_number (relation_of (float a) (float b))
pair_answer P.CmpF32 a b = ordering_index (cmp_of (float a) (float b))
pair_answer P.KeyOrder a b = ordering_index (nat_cmp (key_of a) (key_of b))
pair_answer P.VminWord a b = vmin_word a b
pair_answer P.VmaxWord a b = vmax_word a b
pair_answer P.MinNumber a b = word (min_number_of (float a) (float b))
pair_answer P.MaxNumber a b = word (max_number_of (float a) (float b))
pair_answer P.Vmin a b = word (vmin_of (float a) (float b))
pair_answer P.Vmax a b = word (vmax_of (float a) (float b))

-- the point, the row and the matrix that stand at a place of the words
abbrev pub point_at : List ℕ → ℕ → Vec3
point_at ws i = record { x = float (slice_index ws i); y = float (slice_index ws (i + 1)); z = float (slice_index ws (i + 2)) }

abbrev pub row_at : List ℕ → ℕ → Vec4
row_at ws i =
    record {
      x = float (slice_index ws i);
      y = float (slice_index ws (i + 1));
      z = float (slice_index ws (i + 2));
      w = float (slice_index ws (i + 3));
    }

abbrev pub matrix_at : List ℕ → ℕ → Mat4
matrix_at ws i =
    record { row0 = row_at ws i; row1 = row_at ws (i + 4); row2 = row_at ws (i + 8); row3 = row_at ws (i + 12) }

abbrev pub box_at : List ℕ → ℕ → Aabb
box_at ws i = record { min = point_at ws i; max = point_at ws (i + 3) }

abbrev pub three : Vec3 → Answer
three v = Three (word v.x) (word v.y) (word v.z)

abbrev pub four : Vec4 → Answer
four v = Four (word v.x) (word v.y) (word v.z) (word v.w)

abbrev pub six : Aabb → Answer
six b =
    Six (word b.min.x) (word b.min.y) (word b.min.z) (word b.max.x) (word b.max.y) (word b.max.z)

abbrev pub point_answer : PointStep → Vec3 → Answer
point_answer Vp.Length v = One (word (length_of v))
point_answer Vp.Norm v = three (norm_of v)
point_answer Vp.Neg v = three (neg_of v)
point_answer Vp.Abs v = three (abs_of v)

abbrev pub points_answer : PointsStep → Vec3 → Vec3 → Answer
points_answer Vs.Dot a b = One (word (dot_of a b))
points_answer Vs.Cross a b = three (cross_of a b)
points_answer Vs.CmpVec3 a b = One (ordering_index (cmp_vec3_of a b))
points_answer Vs.Add a b = three (add_of a b)
points_answer Vs.Sub a b = three (sub_of a b)
points_answer Vs.Vmul a b = three (vmul_of a b)
points_answer Vs.Vdiv a b = three (vdiv_of a b)
points_answer Vs.Vmin a b = three (vmin3_of a b)
points_answer Vs.Vmax a b = three (vmax3_of a b)

abbrev pub factor_answer : FactorStep → Vec3 → Float → Answer
factor_answer F.Scale v k = three (scale_of v k)
factor_answer F.VaddF v k = three (vadd_of v k)

abbrev pub transform_answer : TransformStep → Mat4 → Vec3 → Answer
transform_answer T.Point m v = four (point_of m v)
transform_answer T.Vector m v = three (vector_of m v)

abbrev pub answer_of : Operation → List ℕ → Answer
answer_of (Op.Word s) ws = One (word_answer s (slice_index ws 0))
answer_of (Op.Pair s) ws = One (pair_answer s (slice_index ws 0) (slice_index ws 1))
answer_of (Op.Point s) ws = point_answer s (point_at ws 0)
answer_of (Op.Points s) ws = points_answer s (point_at ws 0) (point_at ws 3)
answer_of (Op.Factor s) ws = factor_answer s (point_at ws 0) (float (slice_index ws 3))
answer_of (Op.Transform s) ws = transform_answer s (matrix_at ws 0) (point_at ws 16)
answer_of Op.TransformBox ws = six (transform_box (box_at ws 0) (matrix_at ws 6))

-- the words of an answer, in order
abbrev pub words_of : Answer → List ℕ
words_of (One a) = a ∷ []
words_of (Three a b c) = a ∷ b ∷ c ∷ []
words_of (Four a b c d) = a ∷ b ∷ c ∷ d ∷ []
words_of (Six a b c d e f) = a ∷ b ∷ c ∷ d ∷ e ∷ f ∷ []
