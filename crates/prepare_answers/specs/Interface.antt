-- What preparing answers in C. Definitions only.
use Rattle.std.specs.Prelude.{◌≡◌, ℕ, Result, Ok, Err}
use Rattle.answers.specs.Trees.{zero_point, zero_words, tree_values}
use Rattle.answers.specs.Trees as Trees
use Rattle.answers.specs.declared.trees.BuildAnswer.{BuildAnswer}
use Rattle.bvh.specs.Entry.{Outputs}
use Rattle.meshes.specs.Checks.{refusal_number}
use Rattle.meshes.specs.Meshes.{Mesh}
use Rattle.meshes.specs.declared.Frame.{Frame}
use Rattle.meshes.specs.declared.Lengths.{Lengths}
use Rattle.meshes.specs.declared.PrepareRefusal.{PrepareRefusal}
use Rattle.octants.specs.Answers.{with_counts, without}
use Rattle.octants.specs.declared.answering.OctantsAnswer.{OctantsAnswer}
use Rattle.prepared.specs.Answers.{Lists, Hull, ListsKept, HullKept, TreeKept, geometry_answer, bvh_answer}
use Rattle.prepared.specs.declared.Prepared.{Prepared}
use Rattle.prepared.specs.declared.Prepared.TheVariants.{Geometry, Bvh, Empty}
use Rattle.prepared.specs.declared.Values.{Values}
use Rattle.prepare_answers.specs.declared.PrepareAnswer.{PrepareAnswer}

abbrev pub no_frame : Frame
no_frame = record { box_min = zero_words; box_max = zero_words; box_center = zero_words; sphere_center = zero_words; sphere_radius = 0 }

abbrev pub with_values : Values → OctantsAnswer → BuildAnswer → PrepareAnswer
with_values values octants tree =
    record {
      refusal = 0;
      frame = values.frame;
      quantum = values.quantum;
      materials = values.materials;
      octants = octants;
      tree = tree;
    }

-- a refusal by its number, and no values
abbrev pub refused_by : ℕ → PrepareAnswer
refused_by n = record { refusal = n; frame = no_frame; quantum = zero_point; materials = 0; octants = without 0; tree = Trees.refused_by 0 }

-- Rule K4 (01, Prepare): the number and the values of each answer; what a kind has not is zeros.
abbrev pub answer_in : Result Prepared PrepareRefusal → PrepareAnswer
answer_in (Ok (Geometry values counts)) = with_values values (with_counts counts) (Trees.refused_by 0)
answer_in (Ok (Bvh values t)) = with_values values (without 0) (tree_values t)
answer_in (Ok (Empty values)) = with_values values (without 0) (Trees.refused_by 0)
answer_in (Err why) = refused_by (refusal_number why)

-- Rule K4: the answer r, and every output, as the entry's (`GeometryAnswered`, `BvhAnswered`).
pub record GeometryAnsweredIn (g : Mesh) (l : Lengths) (r : PrepareAnswer) (b b' : Lists) (h h' : Hull) : Type 0 where
  pub answer : r ≡ answer_in (geometry_answer g l)
  pub lists_are : ListsKept g (geometry_answer g l) b b'
  pub hull_is : HullKept g (geometry_answer g l) h h'

pub record BvhAnsweredIn (g : Mesh) (l : Lengths) (r : PrepareAnswer) (b b' : Lists) (t t' : Outputs) : Type 0 where
  pub answer : r ≡ answer_in (bvh_answer g l)
  pub lists_are : ListsKept g (bvh_answer g l) b b'
  pub tree_is : TreeKept g (bvh_answer g l) t t'
