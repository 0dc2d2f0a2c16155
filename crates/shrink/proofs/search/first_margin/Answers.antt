-- `search::first_margin` meets its contract. The loop's invariant: the turns that are left, from the present margin on, answer what all 148 do.
use mathlib.Core.Path.{◌≡◌, refl, sym, ap, ◌∙◌}
use Prim.Native.Nat.{ℕ, ◌+◌, ◌-◌}
use Rattle.math.specs.Transform.{half}
use Rattle.math.specs.Vec3s.{◌⊗◌}
use Rattle.rings.specs.Meshes.{mesh_of}
use Rattle.trial.specs.Trials.{passes_at}
use Rattle.trial.proofs.TrialLaws.{tryable_again}
use Rattle.std.specs.Prelude.{is_ok}
use Rattle.shrink.specs.Margins.{passing}
use Rattle.shrink.proofs.SearchLaws.{too_small, found, halves, none_found, one_found}
use native.Mathlib.Omega.{arith}
use Rattle.shrink.proofs.search.first_margin.Goals as goal

pub loop-turn-init : goal.loop-turn-init
loop-turn-init c = record { ring-length = refl; ns-length = refl; news-length = refl; points-length = refl; rest = refl }

pub returns-then-not-above : goal.returns-then-not-above
returns-then-not-above c =
    let a = c.args in
    let l = c.loop-turn in
    let test = passes_at (mesh_of a.corners.now a.links.now a.n a.vertices.now a.v) in
    none_found l.points (too_small test l.margin (148 - l._turn) c.if-not-above.true ∙ l.invariant.rest)

pub try_margin-tried-requires : goal.try_margin-tried-requires
try_margin-tried-requires c =
    let i = c.loop-turn.invariant in
    tryable_again c.requires _ _ _ _ i.ring-length i.ns-length i.news-length i.points-length

pub returns-in_default : goal.returns-in_default
returns-in_default c =
    let a = c.args in
    let l = c.loop-turn in
    let test = passes_at (mesh_of a.corners.now a.links.now a.n a.vertices.now a.v) in
    let tried = c.try_margin-tried.ensures in
    let passed = ap is_ok c.in_default.is in
    one_found _ l.margin (tried.points_are passed) (found test l.margin (148 - l._turn) (omega arith) c.if-not-above.false
    (sym tried.answer ∙ passed) ∙ l.invariant.rest)

pub loop-turn-preserved : goal.loop-turn-preserved
loop-turn-preserved c =
    let a = c.args in
    let l = c.loop-turn in
    let test = passes_at (mesh_of a.corners.now a.links.now a.n a.vertices.now a.v) in
    let kept = c.try_margin-tried.auto in
    let failed = ap is_ok c.in-Err.is in
    let one_less : 148 - (l._turn + 1) ≡ 148 - l._turn - 1 = omega arith in
    record {
      ring-length = kept.ring ∙ l.invariant.ring-length;
      ns-length = kept.ns ∙ l.invariant.ns-length;
      news-length = kept.news ∙ l.invariant.news-length;
      points-length = kept.points ∙ l.invariant.points-length;
      rest =
          ap (λ (k : ℕ). passing test k (l.margin ⊗ half)) one_less
          ∙ halves test l.margin (148 - l._turn) (omega arith) c.if-not-above.false (sym c.try_margin-tried.ensures.answer ∙ failed)
          ∙ l.invariant.rest;
    }

pub returns : goal.returns
returns c =
    let a = c.args in
    let l = c.loop-turn in
    let test = passes_at (mesh_of a.corners.now a.links.now a.n a.vertices.now a.v) in
    let none : 148 - l._turn ≡ 0 = omega arith in
    none_found l.points (ap (λ (k : ℕ). passing test k l.margin) (sym none) ∙ l.invariant.rest)
