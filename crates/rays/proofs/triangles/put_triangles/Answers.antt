-- `triangles::put_triangles` meets its contract. The loop's invariant: the triangles before p stand in the rows.
use Prim.Native.Nat.{ℕ, ◌+◌, ◌-◌, ◌≤◌, ◌<◌}
use mathlib.Core.List.{List, [], ◌∷◌, ◌++◌}
use mathlib.Core.Path.{◌≡◌, refl, sym, ap, subst, ◌∙◌}
use lib.ListN.{length, length-append}
use Rattle.rays.proofs.TriangleLaws.{Standing, no_triangle, a_triangle, count_grows, stands_more, length_triangle}
use Rattle.rays.specs.Checks.{triangles_of}
use Rattle.rays.specs.Steps.Rows.{put_triangle}
use native.Mathlib.Omega.{arith}
use Rattle.rays.proofs.triangles.put_triangles.Goals as goal

-- a triangle before n leaves room in its row
free : (cs : List ℕ) (n p : ℕ) → p < n → triangles_of cs (p + 1) ≡ triangles_of cs p ++ (p ∷ []) → length (triangles_of cs p) < length (triangles_of cs n)
free cs n p h e =
    let one = ap length e ∙ length-append (triangles_of cs p) (p ∷ []) in
    let all : p + 1 + (n - (p + 1)) ≡ n = omega arith in
    let up = subst (λ (k : ℕ). length (triangles_of cs (p + 1)) ≤ length (triangles_of cs k)) all (count_grows cs (p + 1) (n - (p + 1))) in
    omega arith

pub loop-p-init : goal.loop-p-init
loop-p-init c =
    record {
      same_length = refl;
      count = refl;
      stand = record { first = λ j h. absurd (omega arith); second = λ j h. absurd (omega arith); third = λ j h. absurd (omega arith) };
    }

pub bounds-corners-p : goal.bounds-corners-p
bounds-corners-p c = omega (arith, c.requires.0.corners)

pub loop-p-preserved-then-corners-p-eq65535 : goal.loop-p-preserved-then-corners-p-eq65535
loop-p-preserved-then-corners-p-eq65535 c =
    let a = c.args in
    let l = c.loop-p in
    let same = no_triangle a.corners.now l.p c.if-corners-p-eq65535.true in
    record {
      same_length = l.invariant.same_length;
      count = l.invariant.count ∙ ap length (sym same);
      stand = subst (λ (ts : List ℕ). Standing a.corners.now ts l.tri a.t l.k) (sym same) l.invariant.stand;
    }

pub put_triangle-requires : goal.put_triangle-requires
put_triangle-requires c =
    let l = c.loop-p in
    let more : l.p < c.args.n = omega arith in
    let room = free c.args.corners.now c.args.n l.p more (a_triangle c.args.corners.now l.p c.if-corners-p-eq65535.false) in
    (omega (arith, c.requires.0.corners), omega (arith, c.requires.0.room, c.requires.2, l.invariant.same_length), omega (arith, c.requires.1, l.invariant.count))

pub overflow_add-k : goal.overflow_add-k
overflow_add-k c =
    let a = c.args in
    let l = c.loop-p in
    let more : l.p < a.n = omega arith in
    let room = free a.corners.now a.n l.p more (a_triangle a.corners.now l.p c.if-corners-p-eq65535.false) in
    omega (arith, c.requires.1, c.requires.2, c.requires.0.few, l.invariant.count)

pub loop-p-preserved : goal.loop-p-preserved
loop-p-preserved c =
    let a = c.args in
    let l = c.loop-p in
    let more : l.p < a.n = omega arith in
    let one = a_triangle a.corners.now l.p c.if-corners-p-eq65535.false in
    let room = free a.corners.now a.n l.p more one in
    let put = c.put_triangle.ensures in
    let size = ap length one ∙ length-append (triangles_of a.corners.now l.p) (l.p ∷ []) in
    let stand =
    stands_more a.corners.now (triangles_of a.corners.now l.p) l.tri a.t l.k l.p
    (omega (arith, c.requires.0.room, c.requires.2, l.invariant.same_length)) (omega (arith, c.requires.1, l.invariant.count)) l.invariant.count l.invariant.stand in
    record {
      same_length = ap length put ∙ length_triangle a.corners.now l.tri a.t l.k l.p ∙ l.invariant.same_length;
      count = omega (arith, l.invariant.count);
      stand = subst (λ (tri : List ℕ). Standing a.corners.now (triangles_of a.corners.now (l.p + 1)) tri a.t (l.k + 1)) (sym put)
          (subst (λ (ts : List ℕ). Standing a.corners.now ts (put_triangle l.tri a.t l.k a.corners.now l.p) a.t (l.k + 1))
          (sym one) stand);
    }

pub returns : goal.returns
returns c =
    let a = c.args in
    let l = c.loop-p in
    let end : l.p ≡ a.n = omega arith in
    let all : l.k ≡ a.t = l.invariant.count ∙ ap (λ (k : ℕ). length (triangles_of a.corners.now k)) end ∙ sym c.requires.1 in
    let stand = subst (λ (p : ℕ). Standing a.corners.now (triangles_of a.corners.now p) l.tri a.t l.k) end l.invariant.stand in
    let whole = subst (λ (k : ℕ). Standing a.corners.now (triangles_of a.corners.now a.n) l.tri a.t k) all stand in
    record { count = c.requires.1; first = whole.first; second = whole.second; third = whole.third }
