-- The operations of recorded cases. Definitions only.
use Rattle.std.specs.Prelude.{◌≡◌, ℕ, ◌+◌}
use Rattle.replay.specs.declared.operation.Operation.{Operation}
use Rattle.replay.specs.declared.operation.Operation.TheVariants as Op
use Rattle.replay.specs.declared.operation.WordStep.{WordStep}
use Rattle.replay.specs.declared.operation.WordStep.TheVariants as W
use Rattle.replay.specs.declared.operation.PairStep.{PairStep}
use Rattle.replay.specs.declared.operation.PairStep.TheVariants as P
use Rattle.replay.specs.declared.operation.PointsStep.{PointsStep}
use Rattle.replay.specs.declared.operation.PointsStep.TheVariants as Vs
use Rattle.replay.specs.declared.operation.PointStep.{PointStep}
use Rattle.replay.specs.declared.operation.PointStep.TheVariants as Vp
use Rattle.replay.specs.declared.operation.FactorStep.{FactorStep}
use Rattle.replay.specs.declared.operation.FactorStep.TheVariants as F
use Rattle.replay.specs.declared.operation.TransformStep.{TransformStep}
use Rattle.replay.specs.declared.operation.TransformStep.TheVariants as T

-- The number by which a case names its operation.
abbrev pub word_number : WordStep → ℕ
word_number W.ValueBits = 0x01
word_number W.ToI32 = 0x09
word_number W.ToShort = 0x0a
word_number W.VertexValue = 0x0b
word_number W.Sqrt = 0x0c
word_number W.OfCount = 0x0d
word_number W.OrderKey = 0x16
word_number W.Abs = 0x17

abbrev pub pair_number : PairStep → ℕ
pair_number P.Relate = 0x02
pair_number P.CmpF32 = 0x03
pair_number P.KeyOrder = 0x04
pair_number P.VminWord = 0x05
pair_number P.VmaxWord = 0x06
pair_number P.MinNumber = 0x07
pair_number P.MaxNumber = 0x08
pair_number P.Vmin = 0x18
pair_number P.Vmax = 0x19

abbrev pub points_number : PointsStep → ℕ
points_number Vs.Dot = 0x10
points_number Vs.Cross = 0x11
points_number Vs.CmpVec3 = 0x12
points_number Vs.Add = 0x1a
points_number Vs.Sub = 0x1b
points_number Vs.Vmul = 0x1c
points_number Vs.Vdiv = 0x1d
points_number Vs.Vmin = 0x1e
points_number Vs.Vmax = 0x1f

abbrev pub point_number : PointStep → ℕ
point_number Vp.Length = 0x0e
point_number Vp.Norm = 0x0f
point_number Vp.Neg = 0x20
point_number Vp.Abs = 0x21

abbrev pub factor_number : FactorStep → ℕ
factor_number F.Scale = 0x22
factor_number F.VaddF = 0x23

abbrev pub transform_number : TransformStep → ℕ
transform_number T.Point = 0x13
transform_number T.Vector = 0x14

abbrev pub number_of : Operation → ℕ
number_of (Op.Word s) = word_number s
number_of (Op.Pair s) = pair_number s
number_of (Op.Point s) = point_number s
number_of (Op.Points s) = points_number s
number_of (Op.Factor s) = factor_number s
number_of (Op.Transform s) = transform_number s
number_of Op.TransformBox = 0x15

-- How many words an operation takes. A matrix has sixteen, a point three, a box six.
abbrev pub inputs_of : Operation → ℕ
inputs_of (Op.Word s) = 1
inputs_of (Op.Pair s) = 2
inputs_of (Op.Point s) = 3
inputs_of (Op.Points s) = 6
inputs_of (Op.Factor s) = 4
inputs_of (Op.Transform s) = 19
inputs_of Op.TransformBox = 22

-- How many words it gives.
abbrev pub point_outputs : PointStep → ℕ
point_outputs Vp.Length = 1
point_outputs Vp.Norm = 3
point_outputs Vp.Neg = 3
point_outputs Vp.Abs = 3

abbrev pub points_outputs : PointsStep → ℕ
points_outputs Vs.Dot = 1
points_outputs Vs.Cross = 3
points_outputs Vs.CmpVec3 = 1
points_outputs Vs.Add = 3
points_outputs Vs.Sub = 3
points_outputs Vs.Vmul = 3
points_outputs Vs.Vdiv = 3
points_outputs Vs.Vmin = 3
points_outputs Vs.Vmax = 3

abbrev pub transform_outputs : TransformStep → ℕ
transform_outputs T.Point = 4
transform_outputs T.Vector = 3

abbrev pub outputs_of : Operation → ℕ
outputs_of (Op.Word s) = 1
outputs_of (Op.Pair s) = 1
outputs_of (Op.Point s) = point_outputs s
outputs_of (Op.Points s) = points_outputs s
outputs_of (Op.Factor s) = 3
outputs_of (Op.Transform s) = transform_outputs s
outputs_of Op.TransformBox = 6

-- As many words as it takes and gives.
abbrev pub count_of : Operation → ℕ
count_of op = inputs_of op + outputs_of op

-- A count of the words of the operation that has the number n.
abbrev pub Counts : (Operation → ℕ) → ℕ → ℕ → Type 0
Counts of n r = (op : Operation) → n ≡ number_of op → r ≡ of op
