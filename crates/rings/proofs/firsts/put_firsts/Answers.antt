-- `firsts::put_firsts` meets its contract. The loop's invariant: the list holds the first sides of those below s.
use mathlib.Core.Path.{◌≡◌, refl, sym, ap, subst, ◌∙◌}
use Prim.Native.Nat.{ℕ, ◌+◌, ◌*◌}
use mathlib.Core.List.{List}
use lib.ListN.{length, get_or}
use native.Mathlib.Omega.{arith}
use Rattle.rings.specs.Steps.Stored.{noted, Firsts}
use Rattle.rings.proofs.FirstLaws.{length_noted, one_side}
use Rattle.rings.proofs.firsts.put_firsts.Goals as goal

pub loop-s-init : goal.loop-s-init
loop-s-init c =
    record {
      end_is = refl;
      same_length = refl;
      room = omega
          (arith, c.requires.2, c.no_sides.auto.firsts);
      firsts_are = record
          { sides = c.no_sides.ensures.sides };
    }

pub bounds-corners-s : goal.bounds-corners-s
bounds-corners-s c = omega (arith, c.requires.0, c.loop-s.invariant.end_is)

pub note_side-requires : goal.note_side-requires
note_side-requires c = (
  c.loop-s.invariant.room,
  omega
      (arith, c.requires.1),
)

pub loop-s-preserved : goal.loop-s-preserved
loop-s-preserved c =
    let a = c.args in
    let l = c.loop-s in
    let put = c.note_side.ensures ∙ ap (λ (i : ℕ). noted l.firsts a.v i l.s) c.wide.ensures in
    record {
      end_is = l.invariant.end_is;
      same_length = ap length put ∙ length_noted l.firsts a.v (get_or a.corners.now l.s 0) l.s ∙ l.invariant.same_length;
      room = omega (arith, l.invariant.room, ap length put, length_noted l.firsts a.v (get_or a.corners.now l.s 0) l.s);
      firsts_are =
          subst (λ (fs : List ℕ). Firsts a.corners.now (l.s + 1) a.v fs) (sym put)
          (one_side a.corners.now l.s a.v l.firsts
          (omega (arith, c.requires.1, l.invariant.end_is)) l.invariant.room
          l.invariant.firsts_are);
    }

pub returns : goal.returns
returns c =
    let a = c.args in
    let l = c.loop-s in
    let end : l.s ≡ 3 * a.n = omega (arith, l.invariant.end_is) in
    subst (λ (k : ℕ). Firsts a.corners.now k a.v l.firsts) end l.invariant.firsts_are
