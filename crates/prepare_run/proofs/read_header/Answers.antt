-- `read_header`: a header has 148 bytes.
use mathlib.Core.Path.{sym}
use lib.Seq.{length-take-le}
use Rattle.prepare_run.proofs.read_header.Goals as goal

pub slice_bounds-read_full-end-2 : goal.slice_bounds-read_full-end-2
slice_bounds-read_full-end-2 c = sym (length-take-le 148 c.args.input.now c.requires)
