-- `put_stored` meets its contract. The loop's invariant: the vertices before i are stored and read back, and nothing else is changed.
use Prim.Native.Nat.{ℕ, ◌*◌}
use native.Mathlib.Omega.{arith}
use mathlib.Core.Path.{refl, ap, ◌∙◌}
use mathlib.Core.List.{List}
use lib.Seq.{sets}
use Rattle.points.specs.Points.{words_of}
use Rattle.points.proofs.PointLaws.{points_next}
use Rattle.records.specs.Records.{vertex_bytes}
use Rattle.finishing.specs.Stored.{stored_at, back_at, stored_bytes, floats_of}
use Rattle.finishing.proofs.StoredLaws.{stored_next}
use Rattle.finishing.proofs.storing.put_stored.Goals as goal

pub loop-i-init : goal.loop-i-init
unfolding stored_bytes floats_of
loop-i-init c = record { stored_are = refl; floats_are = refl }

pub put_one-requires : goal.put_one-requires
put_one-requires c =
    let q = c.requires in
    record { given = omega (arith, q.given); for_stored = omega (arith, q.for_stored); for_floats = omega (arith, q.for_floats) }

pub loop-i-preserved : goal.loop-i-preserved
unfolding stored_bytes floats_of
loop-i-preserved c =
    let l = c.loop-i in
    let a = c.args in
    record {
      stored_are =
          c.put_one.ensures.0
          ∙ ap (λ (bytes : List ℕ). sets bytes (6 * l.i) (vertex_bytes (stored_at a.quantum a.words.now l.i))) l.invariant.stored_are
          ∙ stored_next (stored_at a.quantum a.words.now) a.stored.now l.i (omega (arith, c.requires.for_stored));
      floats_are =
          c.put_one.ensures.1
          ∙ ap (λ (ws : List ℕ). sets ws (3 * l.i) (words_of (back_at a.quantum a.words.now l.i))) l.invariant.floats_are
          ∙ points_next (back_at a.quantum a.words.now) a.floats.now l.i (omega (arith, c.requires.for_floats));
    }
