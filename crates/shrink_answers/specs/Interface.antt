-- What shrinking answers in C. Definitions only.
use Rattle.std.specs.Prelude.{ℕ, List, ◌≡◌, Result, Ok, Err}
use Rattle.base.specs.Lists.{over}
use Rattle.rays.specs.Rays.{naught}
use Rattle.shrink_answers.specs.declared.ShrinkAnswer.{ShrinkAnswer}
use Rattle.verts_shrunk.specs.declared.entry.Lengths.{Lengths}
use Rattle.verts_shrunk.specs.declared.entry.ShrinkRefusal.{ShrinkRefusal}
use Rattle.verts_shrunk.specs.declared.entry.Shrunk.{Shrunk}
use Rattle.verts_shrunk.specs.declared.entry.Shrunk.TheVariants.{ByMargin, ByNormals, NoVertices}
use Rattle.shrinking.specs.declared.whole.Geometry.{Geometry}
use Rattle.verts_shrunk.specs.Answers.{number_of, answer_of, kept}
use Rattle.shrinking.specs.Whole.{mesh_in, shrunk_of}

abbrev pub without : ℕ → ℕ → ShrinkAnswer
without refusal by = record { refusal = refusal; by = by; margin = naught }

-- 1 for a margin, 2 for normals
abbrev pub shrunk_in : Shrunk → ShrinkAnswer
shrunk_in (ByMargin m) = record { refusal = 0; by = 1; margin = m }
shrunk_in ByNormals = without 0 2
shrunk_in NoVertices = without 0 0

-- 01's number, or by what the vertices are shrunk
abbrev pub answer_in : Result Shrunk ShrinkRefusal → ShrinkAnswer
answer_in (Ok s) = shrunk_in s
answer_in (Err r) = without (number_of (Err r)) 0

-- The answer, and every word of the points, as the entry's (`Answered`).
pub record AnsweredIn (g : Geometry) (n : ℕ) (polygons : List ℕ) (v : ℕ) (vertices : List ℕ) (l : Lengths) (before after : List ℕ) (r : ShrinkAnswer)
    : Type 0 where
  pub answer : r ≡ answer_in (answer_of g n polygons v vertices l)
  pub points_are : after ≡ kept (answer_of g n polygons v vertices l) (over (shrunk_of g (mesh_in n polygons v vertices)) before) before
