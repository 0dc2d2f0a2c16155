-- `average::measure` meets its contract: what the calls ensure.
use mathlib.Core.Path.{ap, ◌∙◌}
use lib.ListN.{length}
use Rattle.float32.specs.Counts.{of_count}
use Rattle.math.specs.Vec3s.{◌⊘◌, scale_of}
use Rattle.math.specs.Transform.{half}
use Rattle.math.specs.declared.vec3.Vec3.{Vec3}
use Rattle.entries.specs.Average.{average_of}
use Rattle.entries.specs.Steps.Totals.{sum_of}
use Rattle.entries.proofs.average.measure.Goals as goal

pub returns : goal.returns
unfolding average_of
returns c =
    let g = c.gather-g in
    let n = length c.args.places.now in
    let sum = c.sum_of.ensures ∙ ap sum_of g.ensures.0 in
    (c.fold_by_value.ensures, c.average.ensures ∙ ap (λ (v : Vec3). scale_of v (half ⊘ of_count n)) sum, g.ensures.1)
