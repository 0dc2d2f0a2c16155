-- What the entries' answers say of the C interface's. Assumes nothing.
use Rattle.std.specs.Prelude.{◌≡◌, Result}
use mathlib.Core.Path.{ap, ◌∙◌, subst}
use Rattle.bvh.specs.Entry.{Outputs}
use Rattle.meshes.specs.Meshes.{Mesh}
use Rattle.meshes.specs.declared.Lengths.{Lengths}
use Rattle.meshes.specs.declared.PrepareRefusal.{PrepareRefusal}
use Rattle.prepared.specs.Answers.{Lists, Hull, ListsKept, HullKept, TreeKept, GeometryAnswered, BvhAnswered}
use Rattle.prepared.specs.declared.Prepared.{Prepared}
use Rattle.prepare_answers.specs.Interface.{answer_in, GeometryAnsweredIn, BvhAnsweredIn}
use Rattle.prepare_answers.specs.declared.PrepareAnswer.{PrepareAnswer}

pub geometry_in : (g : Mesh) (l : Lengths) (s : Result Prepared PrepareRefusal) (r : PrepareAnswer) (b b' : Lists) (h h' : Hull)
    → GeometryAnswered g l s b b' h h' → r ≡ answer_in s → GeometryAnsweredIn g l r b b' h h'
geometry_in g l s r b b' h h' a given =
    record {
      answer = given ∙ ap answer_in a.answer;
      lists_are = subst (λ (x : Result Prepared PrepareRefusal). ListsKept g x b b') a.answer a.lists_are;
      hull_is = subst (λ (x : Result Prepared PrepareRefusal). HullKept g x h h') a.answer a.hull_is;
    }

pub bvh_in : (g : Mesh) (l : Lengths) (s : Result Prepared PrepareRefusal) (r : PrepareAnswer) (b b' : Lists) (t t' : Outputs)
    → BvhAnswered g l s b b' t t' → r ≡ answer_in s → BvhAnsweredIn g l r b b' t t'
bvh_in g l s r b b' t t' a given =
    record {
      answer = given ∙ ap answer_in a.answer;
      lists_are = subst (λ (x : Result Prepared PrepareRefusal). ListsKept g x b b') a.answer a.lists_are;
      tree_is = subst (λ (x : Result Prepared PrepareRefusal). TreeKept g x t t') a.answer a.tree_is;
    }
