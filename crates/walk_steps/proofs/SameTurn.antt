-- A step that stands for a turn stands for an equal one, and a step at a record for that of an equal record.
use mathlib.Core.Path.{◌≡◌, ap, subst}
use Prim.Native.Nat.{ℕ}
use Rattle.records.specs.declared.BvhNode.{BvhNode}
use Rattle.walk_steps.specs.Step.{Turn, at_node}
use Rattle.walk_steps.specs.Steps.Contracts.{Stepped}
use Rattle.walk_steps.specs.declared.boxes.Query.{Query}
use Rattle.walk_steps.specs.declared.state.Step.{Step}
use Rattle.walk_steps.specs.declared.state.WalkState.{WalkState}

pub stepped_as : {t u : Turn} {r : Step} → t ≡ u → Stepped t r → Stepped u r
stepped_as {t} {u} {r} e p = subst (λ (v : Turn). Stepped v r) e p

-- a node's step, by the record that was read
pub read_as : (q : Query) (items : ℕ) (s : WalkState) {n m : BvhNode} {r : Step}
    → n ≡ m → Stepped (at_node q items n s) r → Stepped (at_node q items m s) r
read_as q items s e p = stepped_as (ap (λ (u : BvhNode). at_node q items u s) e) p
