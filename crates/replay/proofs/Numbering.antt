-- The operations' numbers: those from 1 to 35, each of one operation; tables are read by them. Assumes nothing.
use Rattle.std.proofs.Common.{◌≡◌, ℕ, zero, suc, ◌+◌, ◌-◌, ◌<◌, ◌≤◌, Bool, true, false, ◌&&◌, T, eqb, leb, List, [], ◌∷◌, length, get_or, sym, refl, ap, ◌∙◌, arith, eqb→eq, leb→le}
use Rattle.replay.specs.Operations.{number_of, inputs_of, count_of}
use Rattle.replay.specs.declared.operation.Operation.{Operation}
use Rattle.replay.specs.declared.operation.Operation.TheVariants as Op
use Rattle.replay.specs.declared.operation.WordStep.TheVariants as W
use Rattle.replay.specs.declared.operation.PairStep.TheVariants as P
use Rattle.replay.specs.declared.operation.PointsStep.TheVariants as Vs
use Rattle.replay.specs.declared.operation.PointStep.TheVariants as Vp
use Rattle.replay.specs.declared.operation.FactorStep.TheVariants as F
use Rattle.replay.specs.declared.operation.TransformStep.TheVariants as T

-- how many words the operations take, and take and give, in the order of their numbers
unfoldable pub input_table : List ℕ
input_table =
    0 ∷ 1 ∷ 2 ∷ 2 ∷ 2 ∷ 2 ∷ 2 ∷ 2 ∷ 2 ∷ 1 ∷ 1 ∷ 1 ∷ 1 ∷ 1 ∷ 3 ∷ 3 ∷ 6 ∷ 6 ∷ 6 ∷ 19 ∷ 19 ∷ 22 ∷ 1 ∷ 1 ∷ 2 ∷ 2 ∷ 6 ∷
    6 ∷ 6 ∷ 6 ∷ 6 ∷ 6 ∷ 3 ∷ 3 ∷ 4 ∷ 4 ∷ []

unfoldable pub count_table : List ℕ
count_table =
    0 ∷ 2 ∷ 3 ∷ 3 ∷ 3 ∷ 3 ∷ 3 ∷ 3 ∷ 3 ∷ 2 ∷ 2 ∷ 2 ∷ 2 ∷ 2 ∷ 4 ∷ 6 ∷ 7 ∷ 9 ∷ 7 ∷ 23 ∷ 22 ∷ 28 ∷ 2 ∷ 2 ∷ 3 ∷ 3 ∷ 9 ∷
    9 ∷ 9 ∷ 9 ∷ 9 ∷ 9 ∷ 6 ∷ 6 ∷ 7 ∷ 7 ∷ []

pub record Numbered (op : Operation) : Type 0 where
  pub least : 1 ≤ number_of op
  pub most : number_of op ≤ 35
  pub inputs : get_or input_table (number_of op) 0 ≡ inputs_of op
  pub count : get_or count_table (number_of op) 0 ≡ count_of op

pub numbered : (op : Operation) → Numbered op
unfolding input_table count_table
numbered (Op.Word W.ValueBits) = record { least = omega arith; most = omega arith; inputs = refl; count = refl }
numbered (Op.Word W.ToI32) = record { least = omega arith; most = omega arith; inputs = refl; count = refl }
numbered (Op.Word W.ToShort) = record { least = omega arith; most = omega arith; inputs = refl; count = refl }
numbered (Op.Word W.VertexValue) = record { least = omega arith; most = omega arith; inputs = refl; count = refl }
numbered (Op.Word W.Sqrt) = record { least = omega arith; most = omega arith; inputs = refl; count = refl }
numbered (Op.Word W.OfCount) = record { least = omega arith; most = omega arith; inputs = refl; count = refl }
numbered (Op.Pair P.Relate) = record { least = omega arith; most = omega arith; inputs = refl; count = refl }
numbered (Op.Pair P.CmpF32) = record { least = omega arith; most = omega arith; inputs = refl; count = refl }
numbered (Op.Pair P.KeyOrder) = record { least = omega arith; most = omega arith; inputs = refl; count = refl }
numbered (Op.Pair P.VminWord) = record { least = omega arith; most = omega arith; inputs = refl; count = refl }
numbered (Op.Pair P.VmaxWord) = record { least = omega arith; most = omega arith; inputs = refl; count = refl }
numbered (Op.Pair P.MinNumber) = record { least = omega arith; most = omega arith; inputs = refl; count = refl }
numbered (Op.Pair P.MaxNumber) = record { least = omega arith; most = omega arith; inputs = refl; count = refl }
numbered (Op.Point Vp.Length) = record { least = omega arith; most = omega arith; inputs = refl; count = refl }
numbered (Op.Point Vp.Norm) = record { least = omega arith; most = omega arith; inputs = refl; count = refl }
numbered (Op.Points Vs.Dot) = record { least = omega arith; most = omega arith; inputs = refl; count = refl }
numbered (Op.Points Vs.Cross) = record { least = omega arith; most = omega arith; inputs = refl; count = refl }
numbered (Op.Points Vs.CmpVec3) = record { least = omega arith; most = omega arith; inputs = refl; count = refl }
numbered (Op.Transform T.Point) = record { least = omega arith; most = omega arith; inputs = refl; count = refl }
numbered (Op.Transform T.Vector) = record { least = omega arith; most = omega arith; inputs = refl; count = refl }
numbered Op.TransformBox = record { least = omega arith; most = omega arith; inputs = refl; count = refl }
numbered (Op.Word W.OrderKey) = record { least = omega arith; most = omega arith; inputs = refl; count = refl }
numbered (Op.Word W.Abs) = record { least = omega arith; most = omega arith; inputs = refl; count = refl }
numbered (Op.Pair P.Vmin) = record { least = omega arith; most = omega arith; inputs = refl; count = refl }
numbered (Op.Pair P.Vmax) = record { least = omega arith; most = omega arith; inputs = refl; count = refl }
numbered (Op.Points Vs.Add) = record { least = omega arith; most = omega arith; inputs = refl; count = refl }
numbered (Op.Points Vs.Sub) = record { least = omega arith; most = omega arith; inputs = refl; count = refl }
numbered (Op.Points Vs.Vmul) = record { least = omega arith; most = omega arith; inputs = refl; count = refl }
numbered (Op.Points Vs.Vdiv) = record { least = omega arith; most = omega arith; inputs = refl; count = refl }
numbered (Op.Points Vs.Vmin) = record { least = omega arith; most = omega arith; inputs = refl; count = refl }
numbered (Op.Points Vs.Vmax) = record { least = omega arith; most = omega arith; inputs = refl; count = refl }
numbered (Op.Point Vp.Neg) = record { least = omega arith; most = omega arith; inputs = refl; count = refl }
numbered (Op.Point Vp.Abs) = record { least = omega arith; most = omega arith; inputs = refl; count = refl }
numbered (Op.Factor F.Scale) = record { least = omega arith; most = omega arith; inputs = refl; count = refl }
numbered (Op.Factor F.VaddF) = record { least = omega arith; most = omega arith; inputs = refl; count = refl }

-- ---- no two operations share a number

-- the operations in the order of their numbers
ordered : List Operation
ordered =
    Op.Word W.ValueBits
    ∷ Op.Pair P.Relate
    ∷ Op.Pair P.CmpF32
    ∷ Op.Pair P.KeyOrder
    ∷ Op.Pair P.VminWord
    ∷ Op.Pair P.VmaxWord
    ∷ Op.Pair P.MinNumber
    ∷ Op.Pair P.MaxNumber
    ∷ Op.Word W.ToI32
    ∷ Op.Word W.ToShort
    ∷ Op.Word W.VertexValue
    ∷ Op.Word W.Sqrt
    ∷ Op.Word W.OfCount
    ∷ Op.Point Vp.Length
    ∷ Op.Point Vp.Norm
    ∷ Op.Points Vs.Dot
    ∷ Op.Points Vs.Cross
    ∷ Op.Points Vs.CmpVec3
    ∷ Op.Transform T.Point
    ∷ Op.Transform T.Vector
    ∷ Op.TransformBox
    ∷ Op.Word W.OrderKey
    ∷ Op.Word W.Abs
    ∷ Op.Pair P.Vmin
    ∷ Op.Pair P.Vmax
    ∷ Op.Points Vs.Add
    ∷ Op.Points Vs.Sub
    ∷ Op.Points Vs.Vmul
    ∷ Op.Points Vs.Vdiv
    ∷ Op.Points Vs.Vmin
    ∷ Op.Points Vs.Vmax
    ∷ Op.Point Vp.Neg
    ∷ Op.Point Vp.Abs
    ∷ Op.Factor F.Scale
    ∷ Op.Factor F.VaddF
    ∷ []

found : (op : Operation) → get_or ordered (number_of op - 1) Op.TransformBox ≡ op
unfolding ordered
found (Op.Word W.ValueBits) = refl
found (Op.Word W.ToI32) = refl
found (Op.Word W.ToShort) = refl
found (Op.Word W.VertexValue) = refl
found (Op.Word W.Sqrt) = refl
found (Op.Word W.OfCount) = refl
found (Op.Pair P.Relate) = refl
found (Op.Pair P.CmpF32) = refl
found (Op.Pair P.KeyOrder) = refl
found (Op.Pair P.VminWord) = refl
found (Op.Pair P.VmaxWord) = refl
found (Op.Pair P.MinNumber) = refl
found (Op.Pair P.MaxNumber) = refl
found (Op.Point Vp.Length) = refl
found (Op.Point Vp.Norm) = refl
found (Op.Points Vs.Dot) = refl
found (Op.Points Vs.Cross) = refl
found (Op.Points Vs.CmpVec3) = refl
found (Op.Transform T.Point) = refl
found (Op.Transform T.Vector) = refl
found Op.TransformBox = refl
found (Op.Word W.OrderKey) = refl
found (Op.Word W.Abs) = refl
found (Op.Pair P.Vmin) = refl
found (Op.Pair P.Vmax) = refl
found (Op.Points Vs.Add) = refl
found (Op.Points Vs.Sub) = refl
found (Op.Points Vs.Vmul) = refl
found (Op.Points Vs.Vdiv) = refl
found (Op.Points Vs.Vmin) = refl
found (Op.Points Vs.Vmax) = refl
found (Op.Point Vp.Neg) = refl
found (Op.Point Vp.Abs) = refl
found (Op.Factor F.Scale) = refl
found (Op.Factor F.VaddF) = refl

pub number_injective : (a b : Operation) → number_of a ≡ number_of b → a ≡ b
number_injective a b e = sym (found a) ∙ ap (λ (n : ℕ). get_or ordered (n - 1) Op.TransformBox) e ∙ found b

-- ---- each number from 1 to 35 is an operation's

and_left : (a b : Bool) → T (a && b) → T a
and_left true b t = tt
and_left false b t = t

and_right : (a b : Bool) → T (a && b) → T b
and_right true b t = t
and_right false b t = absurd t

abbrev in_order : ℕ → List Operation → Bool
in_order k [] = true
in_order k (op ∷ ops) = eqb k (number_of op) && in_order (suc k) ops

in_place : (ops : List Operation) (k i : ℕ) → T (in_order k ops) → i < length ops → k + i ≡ number_of (get_or ops i Op.TransformBox)
in_place [] k i t h = absurd (omega arith)
in_place (op ∷ ops) k zero t h =
    let e : k ≡ number_of op = eqb→eq k (number_of op) (and_left (eqb k (number_of op)) (in_order (suc k) ops) t) in
    omega arith
in_place (op ∷ ops) k (suc i) t h =
    let rest = and_right (eqb k (number_of op)) (in_order (suc k) ops) t in
    let e : suc k + i ≡ number_of (get_or ops i Op.TransformBox) = in_place ops (suc k) i rest (omega arith) in
    omega arith

pub record Has (n : ℕ) : Type 0 where
  pub op : Operation
  pub named : n ≡ number_of op

pub has : (n : ℕ) → 1 ≤ n → n ≤ 35 → Has n
unfolding ordered
has n h l =
    let within : n - 1 < 35 = omega arith in
    let e : 1 + (n - 1) ≡ number_of (get_or ordered (n - 1) Op.TransformBox) = in_place ordered 1 (n - 1) tt within in
    record { op = get_or ordered (n - 1) Op.TransformBox; named = omega arith }

-- ---- no entry of the table of counts is above 28

abbrev all_few : List ℕ → Bool
all_few [] = true
all_few (x ∷ xs) = leb x 28 && all_few xs

few_in : (xs : List ℕ) (i : ℕ) → T (all_few xs) → get_or xs i 0 ≤ 28
few_in [] i t = omega arith
few_in (x ∷ xs) zero t = leb→le x 28 (and_left (leb x 28) (all_few xs) t)
few_in (x ∷ xs) (suc i) t = few_in xs i (and_right (leb x 28) (all_few xs) t)

pub count_few : (i : ℕ) → get_or count_table i 0 ≤ 28
unfolding count_table
count_few i = few_in count_table i tt
