-- `groups::none_above` meets its contract: none before i passes.
use native.Mathlib.Omega.{arith}
use Prim.Native.Nat.{ℕ}
use mathlib.Core.Path.{◌≡◌, subst}
use mathlib.Core.Bool.{Bool, false, false≢true}
use lib.ListN.{get_or}
use Rattle.split.proofs.Parting.{passes_above}
use Rattle.split.proofs.groups.none_above.Goals as goal

pub returns-then-one_if_above-gt0 : goal.returns-then-one_if_above-gt0
returns-then-one_if_above-gt0 c = λ t. absurd (false≢true t)

pub returns : goal.returns
returns c =
    let cut = c.coordinate-cut in
    let step = c.step_of-step in
    let e = passes_above c.args.entries.now c.args.avg c.args.axis step.result cut.result step.ensures cut.ensures in
    λ t.
    record {
      fails = λ k l h. subst (λ (test : ℕ → Bool). test (get_or c.args.places.now k 0) ≡ false) e (c.loop-i.invariant k (omega arith) l);
    }
