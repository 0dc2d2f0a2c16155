-- What the entry's answer says of the C interface's. Assumes nothing.
use Prim.Native.Nat.{ℕ}
use mathlib.Core.List.{List}
use mathlib.Core.Path.{◌≡◌, ap, ◌∙◌}
use Rattle.std.specs.Prelude.{Result}
use Rattle.base.specs.Lists.{over}
use Rattle.shrink_answers.specs.declared.ShrinkAnswer.{ShrinkAnswer}
use Rattle.verts_shrunk.specs.declared.entry.Lengths.{Lengths}
use Rattle.verts_shrunk.specs.declared.entry.ShrinkRefusal.{ShrinkRefusal}
use Rattle.verts_shrunk.specs.declared.entry.Shrunk.{Shrunk}
use Rattle.shrinking.specs.declared.whole.Geometry.{Geometry}
use Rattle.verts_shrunk.specs.Answers.{kept, Answered}
use Rattle.shrink_answers.specs.Interface.{answer_in, AnsweredIn}
use Rattle.shrinking.specs.Whole.{mesh_in, shrunk_of}

pub answered_in : (g : Geometry) (n : ℕ) (polygons : List ℕ) (v : ℕ) (vertices : List ℕ) (l : Lengths) (before after : List ℕ) (s : Result Shrunk ShrinkRefusal)
    (r : ShrinkAnswer) → Answered g n polygons v vertices l before after s → r ≡ answer_in s → AnsweredIn g n polygons v vertices l before after r
answered_in g n polygons v vertices l before after s r a given =
    record {
      answer = given ∙ ap answer_in a.answer;
      points_are = a.points_are ∙ ap (λ (x : Result Shrunk ShrinkRefusal). kept x (over (shrunk_of g (mesh_in n polygons v vertices)) before) before) a.answer;
    }
