-- `check::missing_corner` meets its contract: `any` says whether one of the corners in the rows is past the vertices.
use mathlib.Core.Path.{◌≡◌, sym, ap}
use mathlib.Core.Bool.{Bool, true, false, not}
use mathlib.Core.List.{List}
use Prim.Native.Nat.{ℕ, ◌*◌, ◌≤◌, ◌<◌}
use lib.Dec.{leb}
use lib.ListN.{length, get_or, take}
use lib.Seq.{get_or-take, length-take-le}
use native.Mathlib.Omega.{arith}
use borrow.Author.Tests.{tests, le-leb, lt-leb}
use borrow.Author.Rules.{rules}
use Rattle.std.specs.Bool.{MatchBool}
use Rattle.std.specs.List.{HoldsAt, AllWithin}
use Rattle.std.proofs.lemmas.Iterator.{cases_from_any, YieldsList-from_slice}
use Rattle.rays.specs.Steps.Checking.{missing_in}
use Rattle.rays.proofs.CountLaws.{all_none, some_at}
use Rattle.rays.proofs.check.missing_corner.Goals as goal

-- by what `any` says of the corners
by_corners : (tri : List ℕ) (t v : ℕ) → 3 * t ≤ length tri → (r : Bool)
    → MatchBool r ((k : ℕ) × (k < length (take (3 * t) tri)) × HoldsAt (λ x. v ≤ x) (take (3 * t) tri) k)
    (AllWithin (λ x. x < v) (take (3 * t) tri) 0 (length (take (3 * t) tri)))
    → r ≡ missing_in tri t v
by_corners tri t v room true h =
    let long : length (take (3 * t) tri) ≡ 3 * t = length-take-le (3 * t) tri room in
    let below : h.0 < 3 * t = omega (arith, h.1) in
    sym (ap not (some_at (3 * t) (λ k. leb v (get_or tri k 0)) h.0 below
    (le-leb v (get_or tri h.0 0) (rw (get_or-take (3 * t) tri h.0 0 below) at (h.2 0)))))
by_corners tri t v room false h =
    let long : length (take (3 * t) tri) ≡ 3 * t = length-take-le (3 * t) tri room in
    sym (ap not (all_none (3 * t) (λ k. leb v (get_or tri k 0))
    (λ k l. lt-leb v (get_or tri k 0) (rw (get_or-take (3 * t) tri k 0 l) at (h k 0 (omega arith) (omega arith))))))

pub returns : goal.returns
returns c =
    let a = c.args in
    let corners = take (3 * a.t) a.tri.now in
    by_corners a.tri.now a.t a.v c.requires.0 _
    (cases_from_any _ _ _ (λ x. a.v ≤ x) (λ x. x < a.v) c.any.ensures.ran (YieldsList-from_slice corners cc) (λ x q k. search (rules, tests))
    (λ x q k. search (rules, tests)))
