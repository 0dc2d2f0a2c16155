-- `rows::hits_in` meets its contract. The loop's invariant: `hits` counts the triangles before k that are struck.
use mathlib.Core.Path.{◌≡◌}
use Rattle.rays.specs.Steps.Counting.{count_to}
use Rattle.rays.specs.Steps.Rows.{struck}
use Rattle.rays.proofs.rows.hits_in.Given as goal

abbrev pub invariant-loop-k : goal.invariant-loop-k
invariant-loop-k l = l.hits ≡ count_to l.k (struck l.tri l.rows l.t l.i l.ray)
