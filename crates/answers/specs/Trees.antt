-- What the C interface answers of a build and of a header. Definitions only.
use Rattle.std.specs.Prelude.{◌≡◌, ℕ, ◌+◌, ◌*◌, List, from_bits, Ok, Err}
use Rattle.std.specs.Float.{binary32}
use Rattle.math.specs.declared.vec3.Vec3.{Vec3}
use Rattle.math.specs.declared.words3.Words3.{Words3}
use Rattle.header.specs.declared.Bvh.{Bvh}
use Rattle.header.specs.Header.{header_answer, header_exit}
use Rattle.bvh.specs.declared.slices.BuiltTree.{BuiltTree}
use Rattle.bvh.specs.declared.slices.Lengths.{Lengths}
use Rattle.bvh.specs.Build.{Build, Entries, answer_of, kept, number_of, nodes_written, trees_written, order_written}
use Rattle.bvh.specs.Entry.{Outputs}
use Rattle.answers.specs.declared.trees.BuildAnswer.{BuildAnswer}

abbrev pub zero_point : Vec3
zero_point = record { x = from_bits binary32 0; y = from_bits binary32 0; z = from_bits binary32 0 }

abbrev pub zero_words : Words3
zero_words = record { x = 0; y = 0; z = 0 }

-- a refusal by its number, and no values
unfoldable pub refused_by : ℕ → BuildAnswer
refused_by n =
    record {
      refusal = n;
      nodes = 0;
      capacity = 0;
      trees = 0;
      present = 0;
      min = zero_words;
      max = zero_words;
      scale = record { cen = zero_point; inverse = zero_point; quantum = zero_point };
    }

-- the values of a tree that was built
unfoldable pub tree_values : BuiltTree → BuildAnswer
tree_values t =
    record {
      refusal = 0;
      nodes = t.nodes;
      capacity = t.capacity;
      trees = t.trees;
      present = t.present;
      min = t.min;
      max = t.max;
      scale = t.scale;
    }

-- Rule B1 (01, What each operation turns down): the number and the values of each answer.
abbrev pub build_answer : Build → BuildAnswer
build_answer (Ok t) = tree_values t
build_answer (Err r) = refused_by (number_of (Err r))

-- Rule B2 (01, Build): the answer r of a build of the entries e, and the three outputs whole.
pub record Answers (e : Entries) (th : ℕ) (l : Lengths) (r : BuildAnswer) (before after : Outputs) : Type 0 where
  pub answer : r ≡ build_answer (answer_of e th l)
  pub nodes_are : after.nodes ≡ kept (answer_of e th l) (nodes_written e th) before.nodes
  pub trees_are : after.trees ≡ kept (answer_of e th l) (trees_written e th) before.trees
  pub order_is : after.order ≡ kept (answer_of e th l) (order_written e th) before.order

-- 01, Build: the words of a work buffer for n entries.
abbrev pub work_len : ℕ → ℕ
work_len n = 30 * n + 8

-- Rule R9 (01, Tree header): the number, and the bytes after it.
pub record HeaderWritten (h : Bvh) (before after : List ℕ) (r : ℕ) : Type 0 where
  pub number : r ≡ header_answer h before
  pub bytes : after ≡ header_exit h before
